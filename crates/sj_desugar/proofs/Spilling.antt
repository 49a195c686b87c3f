-- Operands one by one.
use Rattle.std.proofs.Common.{◌≡◌, ◌∙◌, ℕ, Bool, true, false, ◌&&◌, List, [], ◌∷◌, refl, ap, sym}
use Rattle.std.proofs.Math.Bool.{and-true}
use Rattle.std.proofs.lemmas.Bool.{and_parts}
use Rattle.sj_core.specs.Terms.{Expression, no_statements, followed}
use Rattle.sj_desugar_spec.specs.Spill.{Operand, Spilled, Code, all_plain, texts, with_expression, with_statements, spill, spill_case, then_use, joined}
use Rattle.sj_desugar_forms.specs.Forms.{behind}
use Rattle.sj_desugar_forms.specs.Placing.{Placed, placed_case, placed}
use Rattle.sj_desugar_forms.proofs.Lists.{followed-nil, followed-assoc}

-- operands that are all plain stay as they are
pub spill-plain : (os : List Operand) (j : ℕ) → all_plain os ≡ true → spill os j ≡ record { statements = no_statements; expressions = texts os; next = j }
spill-plain [] j h = refl
spill-plain (o ∷ os) j h = ap (λ b. spill_case b o.fixed o.plain o os (spill os) j) h

-- what an operand comes to, and those behind it
abbrev pub in_front : Placed → (ℕ → Spilled) → Spilled
in_front p rest = with_statements p.statements (with_expression p.expression (rest p.next))

pub spill-more : (o : Operand) (os : List Operand) (j : ℕ) → spill (o ∷ os) j ≡ in_front (placed (all_plain os) o j) (spill os)
spill-more o os j = go (o.plain && all_plain os) refl o.fixed o.plain
  where
    go : (b : Bool) → (o.plain && all_plain os) ≡ b → (fixed plain : Bool) → spill_case b fixed plain o os (spill os) j ≡ in_front (placed_case b fixed plain o j) (spill os)
    go true h fixed plain = sym (ap (with_expression o.text) (spill-plain os j (and_parts o.plain (all_plain os) h).1))
    go false h true plain = refl
    go false h false true = refl
    go false h false false = refl

pub use-one : (o : Operand) (j : ℕ) (f : List Expression → ℕ → Code) → then_use (spill (o ∷ []) j) f ≡ behind (placed true o j) (λ e. f (e ∷ []))
use-one o j f =
    let p = placed true o j in
    ap (λ r. then_use r f) (spill-more o [] j) ∙ ap (λ ss. joined (record { statements = ss; next = p.next }) (f (p.expression ∷ []) p.next)) (followed-nil p.statements)

pub use-two : (o u : Operand) (j : ℕ) (f : List Expression → ℕ → Code) → then_use (spill (o ∷ u ∷ []) j) f ≡ behind (placed u.plain o j) (λ e k. behind (placed true u k) (λ g. f (e ∷ g ∷ [])))
use-two o u j f = ap (λ r. then_use r f) (spill-more o (u ∷ []) j) ∙ ap (λ b. then_use (in_front (placed b o j) (spill (u ∷ []))) f) (and-true u.plain) ∙ second (placed u.plain o j)
  where
    second : (p : Placed) → then_use (in_front p (spill (u ∷ []))) f ≡ behind p (λ e k. behind (placed true u k) (λ g. f (e ∷ g ∷ [])))
    second p =
        let q = placed true u p.next in
        ap (λ r. then_use (with_statements p.statements (with_expression p.expression r)) f) (spill-more u [] p.next) ∙ ap (λ ss. joined (record { statements = followed p.statements ss; next = q.next }) (f (p.expression ∷ q.expression ∷ []) q.next)) (followed-nil q.statements) ∙ ap (λ ss. record { statements = ss; next = (f (p.expression ∷ q.expression ∷ []) q.next).next }) (followed-assoc p.statements q.statements (f (p.expression ∷ q.expression ∷ []) q.next).statements)

pub use-first : (o : Operand) (os : List Operand) (j : ℕ) (f : List Expression → ℕ → Code) → then_use (spill (o ∷ os) j) f ≡ behind (placed (all_plain os) o j) (λ e i. then_use (spill os i) (λ es. f (e ∷ es)))
use-first o os j f = ap (λ r. then_use r f) (spill-more o os j) ∙ first (placed (all_plain os) o j)
  where
    first : (p : Placed) → then_use (in_front p (spill os)) f ≡ behind p (λ e i. then_use (spill os i) (λ es. f (e ∷ es)))
    first p =
        let r = spill os p.next in
        let c = f (p.expression ∷ r.expressions) r.next in
        ap (λ ss. record { statements = ss; next = c.next }) (followed-assoc p.statements r.statements c.statements)

pub use-three : (o u v : Operand) (j : ℕ) (f : List Expression → ℕ → Code) → then_use (spill (o ∷ u ∷ v ∷ []) j) f ≡ behind (placed (u.plain && v.plain) o j) (λ e k. behind (placed v.plain u k) (λ g n. behind (placed true v n) (λ h. f (e ∷ g ∷ h ∷ []))))
use-three o u v j f = use-first o (u ∷ v ∷ []) j f ∙ (λ i. behind (placed (u.plain && and-true v.plain i) o j) (λ e k. use-two u v k (λ es. f (e ∷ es)) i))

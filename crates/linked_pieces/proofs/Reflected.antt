-- The functions by which receivers are called under reflective names are one list where the same is known, and so are all that tell receivers apart.
use Rattle.std.proofs.Common.{◌≡◌, ◌++◌, List, [], ◌∷◌, refl, sym, ap, subst, ◌∙◌, Contains}
use Rattle.std.specs.Prelude.{reverse}
use Rattle.std.proofs.lemmas.List.{reverse-reverse}
use Rattle.sj_emit_help_spec.specs.Words.{kind_class, told_kinds}
use Rattle.sj_emit_help_spec.specs.declared.kinds.Kind.{Kind}
use Rattle.js_tree.specs.Terms.{Piece}
use Rattle.agree_programs.specs.Dispatch.{Reflected, IsReflectedTarget, AreReflected, reflected_none, reflected, unreflected, reflective_piece, IsReflectivePiece}
use Rattle.agree_programs.specs.Entries.{IsTarget, IsReflective}
use Rattle.sj_names.specs.declared.method_names.MethodName.{MethodName}
use Rattle.agree_programs.proofs.Owners.{one_owner}
use Rattle.sj_split.proofs.Unique.{never_both}
use Rattle.sj_world.specs.Known.{Classes}
use Rattle.sj_world.specs.Linked.{Linked}
use Rattle.sj_world.specs.declared.facts.Fact.{Fact}
use Rattle.sj_world.specs.declared.facts.Fact.TheVariants as fact
use Rattle.sj_world.specs.declared.linked.MethodEntry.{MethodEntry}
use Rattle.linked_pieces.specs.Dispatched.{HasLesserPiece}
use Rattle.linked_pieces.specs.Reflected.{IsReflected, OfReflected, HasReflectivePiece, AreReflectivePieces, AreToldPieces, HasOneTarget}
use Rattle.linked_pieces.proofs.Dispatched.{reached_too, one_dispatch}
use Rattle.linked_pieces.proofs.Order.{one_order}
use Rattle.linked_pieces.proofs.Picked.{last_first}
use Rattle.linked_pieces.proofs.Telling.{Tells, none_tells, tells, passes, one_telling}

-- the case of a kind, of whose class a reflective call reaches a method with a reached target
abbrev HasCase : Classes → List Fact → MethodName → Kind → Reflected → Type 0
HasCase w known p k t = (t.kind ≡ k) × IsReflectedTarget w known (kind_class k) p t.method t.owner

cases_reversed : (w : Classes) (known : List Fact) (p : MethodName) (ks : List Kind) (ts : List Reflected) → AreReflected w known p ks ts → Tells (HasCase w known p) (reverse ks) (reverse ts)
cases_reversed w known p _ _ reflected_none = none_tells
cases_reversed w known p _ _ (reflected k ks m owner ts are h) =
    let t : Reflected = record { kind = k; owner = owner; method = m } in
    subst (λ xs. Tells (HasCase w known p) xs (reverse (ts ++ t ∷ []))) (sym (last_first ks k)) (subst (λ ys. Tells (HasCase w known p) (k ∷ reverse ks) ys) (sym (last_first ts t)) (tells k t (reverse ks) (reverse ts) (refl, h) (cases_reversed w known p ks ts are)))
cases_reversed w known p _ _ (unreflected k ks ts are none) = subst (λ xs. Tells (HasCase w known p) xs (reverse ts)) (sym (last_first ks k)) (passes k (reverse ks) (reverse ts) (λ t h. none t.method t.owner h.1) (cases_reversed w known p ks ts are))

module _ (w : Classes) (one_target : HasOneTarget w) (entries : List MethodEntry) where
  abbrev with_facts : List Fact → Linked
  with_facts known = record { world = w; facts = known; entries = entries }

  module _ (known more : List Fact) (to : (f : Fact) → Contains known f → Contains more f) where
    case_too : (p : MethodName) (k : Kind) (t : Reflected) → HasCase w known p k t → HasCase w more p k t
    case_too p k t h = (h.0, record { definition = h.1.definition; declared_by = h.1.declared_by; proxy = h.1.proxy; method_is = h.1.method_is; target = reached_too w entries known more to (kind_class k) t.method t.owner h.1.target })

    calls_too : (p : MethodName) → IsReflective w known p → IsReflective w more p
    calls_too p h = record { member = h.member; needed = to (fact.Body h.member) h.needed; definition = h.definition; defined = h.defined; calls = h.calls }

    reflected_too : (ps qs : List Piece) → ps ≡ qs → (p : MethodName) → IsReflected (with_facts known) ps p → IsReflected (with_facts more) qs p
    reflected_too ps qs same p h = record { named = h.named; called = calls_too p h.called; user = h.user; among = subst (λ (xs : List Piece). Contains xs h.user) same h.among; uses = h.uses }

  module _ (known more : List Fact) (to : (f : Fact) → Contains known f → Contains more f) (from : (f : Fact) → Contains more f → Contains known f) where
    one_case : (p : MethodName) (k : Kind) (a b : Reflected) → HasCase w known p k a → HasCase w more p k b → a ≡ b
    one_case p k a b h g =
        let kind : a.kind ≡ b.kind = h.0 ∙ sym g.0 in
        let method : a.method ≡ b.method = h.1.method_is ∙ one_target (kind_class k) p h.1.definition g.1.definition h.1.declared_by g.1.declared_by h.1.proxy g.1.proxy ∙ sym g.1.method_is in
        let owner : a.owner ≡ b.owner = one_owner w (kind_class k) b.method a.owner b.owner (subst (λ (m : MethodName). IsTarget w (kind_class k) m a.owner) method h.1.target.is_target) g.1.target.is_target in
        (λ i. record { kind = kind i; owner = owner i; method = method i })

    one_cases : (p : MethodName) (ks : List Kind) (xs ys : List Reflected) → AreReflected w known p ks xs → AreReflected w more p ks ys → xs ≡ ys
    one_cases p ks xs ys first second =
        sym (reverse-reverse xs)
        ∙ ap reverse (one_telling (HasCase w known p) (HasCase w more p) (one_case p) (case_too known more to p) (case_too more known from p) (reverse ks) (reverse xs) (reverse ys) (cases_reversed w known p ks xs first) (cases_reversed w more p ks ys second))
        ∙ reverse-reverse ys

    one_piece : (m : MethodName) (p q : Piece) → IsReflectivePiece w known m p → IsReflectivePiece w more m q → p ≡ q
    one_piece m p q one other = one.piece_is ∙ ap (reflective_piece m) (one_cases m told_kinds one.cases other.cases one.are_reflected other.are_reflected) ∙ sym other.piece_is

    -- a piece among the ones is among the others
    among_too : (ps qs xs ys : List Piece) → ps ≡ qs → AreReflectivePieces (with_facts known) ps xs → AreReflectivePieces (with_facts more) qs ys → (p : Piece) → Contains xs p → Contains ys p
    among_too ps qs xs ys same one other p i =
        let made : OfReflected (with_facts known) ps p = one.made p i in
        let has : HasReflectivePiece (with_facts more) ys made.method = other.each made.method (reflected_too known more to ps qs same made.method made.reflected) in
        subst (Contains ys) (sym (one_piece made.method p has.piece made.is_piece has.is_piece)) has.among

  never_piece : (p q : Piece) → HasLesserPiece p q → HasLesserPiece q p → ⊥
  never_piece p q h k = never_both p.name q.name h k

  module _ (known more : List Fact) (to : (f : Fact) → Contains known f → Contains more f) (from : (f : Fact) → Contains more f → Contains known f) where
    one_reflective : (ps qs xs ys : List Piece) → ps ≡ qs → AreReflectivePieces (with_facts known) ps xs → AreReflectivePieces (with_facts more) qs ys → xs ≡ ys
    one_reflective ps qs xs ys same one other = one_order HasLesserPiece never_piece xs ys one.in_order other.in_order (λ p. (among_too known more to from ps qs xs ys same one other p, among_too more known from to qs ps ys xs (sym same) other one p))

    pub one_told : (ps qs xs ys : List Piece) → ps ≡ qs → AreToldPieces (with_facts known) ps xs → AreToldPieces (with_facts more) qs ys → xs ≡ ys
    one_told ps qs xs ys same one other =
        let methods : one.methods ≡ other.methods = one_dispatch w entries known more to from ps qs one.methods other.methods same one.are_methods other.are_methods in
        let names : one.names ≡ other.names = one_reflective ps qs one.names other.names same one.are_names other.are_names in
        one.told_are ∙ (λ i. methods i ++ names i) ∙ sym other.told_are

-- Statements of the core that have no early error, and their templates.
use Rattle.std.proofs.Common.{◌≡◌, ℕ, Bool, true, false, ◌&&◌, ◌||◌, not, List, [], ◌∷◌, map, refl, sym, ap, ◌∙◌, subst, inl, inr, ⊎_elim}
use Rattle.agree_body_rules.specs.Lookup.{Lookup}
use Rattle.std.specs.Prelude.{nat_eq}
use Rattle.std.specs.Cmp.Lexicographic.{pointwise}
use Rattle.js_mean.specs.Proper.{Place, is_among, are_distinct, declared, is_proper, are_proper, are_proper_cases}
use Rattle.js_mean.specs.Terms as tree
use Rattle.js_mean.specs.Terms.{Name}
use Rattle.agree_body_rules.specs.Terms as core
use Rattle.agree_body_rules.specs.Terms.{followed}
use Rattle.agree_body_rules.specs.Templates.{statement_template, statement_templates, case_templates}
use Rattle.agree_body_rules.proofs.Equal.{equals, is-equal}
use Rattle.agree_early_errors.proofs.Declared.{DeclaresOne, Declares, declares-followed, declared-named}
use Rattle.sj_names.proofs.Same.{impossible}
use Rattle.agree_early_errors.specs.Once.{IsAmong}

-- no variable is declared twice in one list
abbrev pub Distinct : core.Statements → Type 0
Distinct core.no_statements = Unit {0}
Distinct (core.statement s ss) = ((y : core.Variable) → DeclaresOne s y → Declares ss y → ⊥) × Distinct ss

pub distinct-followed : (a b : core.Statements) → Distinct a → Distinct b → ((y : core.Variable) → Declares a y → Declares b y → ⊥) → Distinct (followed a b)
distinct-followed core.no_statements b h k n = k
distinct-followed (core.statement s ss) b h k n = ((λ y d e. ⊎_elim (λ i. h.0 y d i) (λ i. n y (inl d) i) (declares-followed ss b y e)), distinct-followed ss b h.1 k (λ y d e. n y (inr d) e))

abbrev mutual
  -- inside these labels, and inside a loop or a switch or not
  pub ProperOne : List (List ℕ) → Bool → core.Statement → Type 0
  ProperOne ls b (core.leave_label p l) = IsAmong ls l
  ProperOne ls b (core.break_nearest p) = b ≡ true
  ProperOne ls b (core.if_of p c ss ts) = Distinct ss × Proper ls b ss × Distinct ts × Proper ls b ts
  ProperOne ls b (core.while_of p c ss) = Distinct ss × Proper ls true ss
  ProperOne ls b (core.loop_of p ss) = Distinct ss × Proper ls true ss
  ProperOne ls b (core.labeled_of p l ss) = (IsAmong ls l → ⊥) × Distinct ss × Proper (l ∷ ls) b ss
  ProperOne ls b (core.switch_of p e cs ss) = ProperCases ls cs × Distinct ss × Proper ls true ss
  ProperOne ls b (core.try_of p ss x ts) = Distinct ss × Proper ls b ss × (Declares ts x → ⊥) × Distinct ts × Proper ls b ts
  ProperOne ls b (core.finally_of p ss ts) = Distinct ss × Proper ls b ss × Distinct ts × Proper ls b ts
  ProperOne ls b _ = Unit {0}

  pub Proper : List (List ℕ) → Bool → core.Statements → Type 0
  Proper ls b core.no_statements = Unit {0}
  Proper ls b (core.statement s ss) = ProperOne ls b s × Proper ls b ss

  pub ProperCases : List (List ℕ) → core.Cases → Type 0
  ProperCases ls core.no_cases = Unit {0}
  ProperCases ls (core.switch_case ks ss cs) = Distinct ss × Proper ls true ss × ProperCases ls cs

pub proper-followed : (ls : List (List ℕ)) (b : Bool) (a c : core.Statements) → Proper ls b a → Proper ls b c → Proper ls b (followed a c)
proper-followed ls b core.no_statements c h k = k
proper-followed ls b (core.statement s ss) c h k = (h.0, proper-followed ls b ss c h.1 k)

both : (a b : Bool) → a ≡ true → b ≡ true → (a && b) ≡ true
both true b h k = k
both false b h k = h

not_is : (b : Bool) → b ≡ false → not b ≡ true
not_is true h = impossible (sym h)
not_is false h = refl

module _ (name_of : core.Variable → Name) (label_of : List ℕ → Name) (lookup : Lookup) (variables : (x y : core.Variable) → name_of x ≡ name_of y → x ≡ y) (labels : (l m : List ℕ) → label_of l ≡ label_of m → l ≡ m) where
  abbrev templates : core.Statements → tree.Statements
  templates = statement_templates name_of label_of lookup

  pub not_again : (x : core.Variable) (ss : core.Statements) → (Declares ss x → ⊥) → is_among (declared (templates ss)) (name_of x) ≡ false
  not_again x ss h = go (is_among (declared (templates ss)) (name_of x)) refl
    where
      go : (b : Bool) → is_among (declared (templates ss)) (name_of x) ≡ b → is_among (declared (templates ss)) (name_of x) ≡ false
      go false e = e
      go true e = let n = declared-named name_of label_of lookup ss (name_of x) e in absurd (h (subst (Declares ss) (variables n.variable x n.name) n.declares))

  declaring : (x : core.Variable) (ss : core.Statements) → (Declares ss x → ⊥) → are_distinct (declared (templates ss)) ≡ true → (not (is_among (declared (templates ss)) (name_of x)) && are_distinct (declared (templates ss))) ≡ true
  declaring x ss h k = both (not (is_among (declared (templates ss)) (name_of x))) (are_distinct (declared (templates ss))) (not_is (is_among (declared (templates ss)) (name_of x)) (not_again x ss h)) k

  pub distinct-templates : (ss : core.Statements) → Distinct ss → are_distinct (declared (templates ss)) ≡ true
  distinct-templates core.no_statements h = refl
  distinct-templates (core.statement (core.constant_of p x e) ss) h = declaring x ss (h.0 x refl) (distinct-templates ss h.1)
  distinct-templates (core.statement (core.define_of p x e) ss) h = declaring x ss (h.0 x refl) (distinct-templates ss h.1)
  distinct-templates (core.statement (core.declare_of p x) ss) h = declaring x ss (h.0 x refl) (distinct-templates ss h.1)
  distinct-templates (core.statement (core.if_of p c a core.no_statements) ss) h = distinct-templates ss h.1
  distinct-templates (core.statement (core.if_of p c a (core.statement t ts)) ss) h = distinct-templates ss h.1
  distinct-templates (core.statement s ss) h = distinct-templates ss h.1

  -- where statements stand
  abbrev pub at : List (List ℕ) → Bool → Place
  at ls b = record { labels = map label_of ls; breakable = b; super_allowed = false }

  label_among : (ls : List (List ℕ)) (l : List ℕ) → IsAmong ls l → is_among (map label_of ls) (label_of l) ≡ true
  label_among [] l h = absurd h
  label_among (m ∷ ms) l (inl e) = front (pointwise nat_eq (label_of l) (label_of m)) (is_among (map label_of ms) (label_of l)) (ap (λ x. pointwise nat_eq (label_of l) (label_of x)) (sym e) ∙ equals (label_of l))
    where
      front : (a b : Bool) → a ≡ true → (a || b) ≡ true
      front true b h = refl
      front false b h = impossible h
  label_among (m ∷ ms) l (inr h) = later (pointwise nat_eq (label_of l) (label_of m)) (is_among (map label_of ms) (label_of l)) (label_among ms l h)
    where
      later : (a b : Bool) → b ≡ true → (a || b) ≡ true
      later true b h = refl
      later false b h = h

  label_new : (ls : List (List ℕ)) (l : List ℕ) → (IsAmong ls l → ⊥) → is_among (map label_of ls) (label_of l) ≡ false
  label_new [] l h = refl
  label_new (m ∷ ms) l h = go (pointwise nat_eq (label_of l) (label_of m)) refl (label_new ms l (λ i. h (inr i)))
    where
      go : (b : Bool) → pointwise nat_eq (label_of l) (label_of m) ≡ b → is_among (map label_of ms) (label_of l) ≡ false → (b || is_among (map label_of ms) (label_of l)) ≡ false
      go true e k = absurd (h (inl (labels l m (is-equal (label_of l) (label_of m) e))))
      go false e k = k

  mutual
    proper-template : (ls : List (List ℕ)) (b : Bool) (s : core.Statement) → ProperOne ls b s → is_proper (at ls b) (statement_template name_of label_of lookup s) ≡ true
    proper-template ls b (core.leave_label p l) h = label_among ls l h
    proper-template ls b (core.break_nearest p) h = h
    proper-template ls b (core.if_of p c ss core.no_statements) h = both (are_distinct (declared (templates ss))) (are_proper (at ls b) (templates ss)) (distinct-templates ss h.0) (proper-templates ls b ss h.1)
    proper-template ls b (core.if_of p c ss (core.statement t ts)) h = both (are_distinct (declared (templates ss)) && are_proper (at ls b) (templates ss) && are_distinct (declared (templates (core.statement t ts)))) (are_proper (at ls b) (templates (core.statement t ts))) (both (are_distinct (declared (templates ss)) && are_proper (at ls b) (templates ss)) (are_distinct (declared (templates (core.statement t ts)))) (both (are_distinct (declared (templates ss))) (are_proper (at ls b) (templates ss)) (distinct-templates ss h.0) (proper-templates ls b ss h.1)) (distinct-templates (core.statement t ts) h.2)) (proper-templates ls b (core.statement t ts) h.3)
    proper-template ls b (core.while_of p c ss) h = both (are_distinct (declared (templates ss))) (are_proper (at ls true) (templates ss)) (distinct-templates ss h.0) (proper-templates ls true ss h.1)
    proper-template ls b (core.loop_of p ss) h = both (are_distinct (declared (templates ss))) (are_proper (at ls true) (templates ss)) (distinct-templates ss h.0) (proper-templates ls true ss h.1)
    proper-template ls b (core.labeled_of p l ss) h = both (not (is_among (map label_of ls) (label_of l)) && are_distinct (declared (templates ss))) (are_proper (at (l ∷ ls) b) (templates ss)) (both (not (is_among (map label_of ls) (label_of l))) (are_distinct (declared (templates ss))) (not_is (is_among (map label_of ls) (label_of l)) (label_new ls l h.0)) (distinct-templates ss h.1)) (proper-templates (l ∷ ls) b ss h.2)
    proper-template ls b (core.try_of p ss x ts) h = both (are_distinct (declared (templates ss)) && are_proper (at ls b) (templates ss) && are_distinct (name_of x ∷ declared (templates ts))) (are_proper (at ls b) (templates ts)) (both (are_distinct (declared (templates ss)) && are_proper (at ls b) (templates ss)) (are_distinct (name_of x ∷ declared (templates ts))) (both (are_distinct (declared (templates ss))) (are_proper (at ls b) (templates ss)) (distinct-templates ss h.0) (proper-templates ls b ss h.1)) (declaring x ts h.2 (distinct-templates ts h.3))) (proper-templates ls b ts h.4)
    proper-template ls b (core.finally_of p ss ts) h = both (are_distinct (declared (templates ss)) && are_proper (at ls b) (templates ss) && are_distinct (declared (templates ts))) (are_proper (at ls b) (templates ts)) (both (are_distinct (declared (templates ss)) && are_proper (at ls b) (templates ss)) (are_distinct (declared (templates ts))) (both (are_distinct (declared (templates ss))) (are_proper (at ls b) (templates ss)) (distinct-templates ss h.0) (proper-templates ls b ss h.1)) (distinct-templates ts h.2)) (proper-templates ls b ts h.3)
    proper-template ls b (core.switch_of p e cs ss) h = both (are_proper_cases (at ls true) (case_templates name_of label_of lookup cs) && are_distinct (declared (templates ss))) (are_proper (at ls true) (templates ss)) (both (are_proper_cases (at ls true) (case_templates name_of label_of lookup cs)) (are_distinct (declared (templates ss))) (proper-cases ls cs h.0) (distinct-templates ss h.1)) (proper-templates ls true ss h.2)
    proper-template ls b _ h = refl

    pub proper-templates : (ls : List (List ℕ)) (b : Bool) (ss : core.Statements) → Proper ls b ss → are_proper (at ls b) (templates ss) ≡ true
    proper-templates ls b core.no_statements h = refl
    proper-templates ls b (core.statement s ss) h = both (is_proper (at ls b) (statement_template name_of label_of lookup s)) (are_proper (at ls b) (templates ss)) (proper-template ls b s h.0) (proper-templates ls b ss h.1)

    proper-cases : (ls : List (List ℕ)) (cs : core.Cases) → ProperCases ls cs → are_proper_cases (at ls true) (case_templates name_of label_of lookup cs) ≡ true
    proper-cases ls core.no_cases h = refl
    proper-cases ls (core.switch_case ks ss cs) h = both (are_distinct (declared (templates ss)) && are_proper (at ls true) (templates ss)) (are_proper_cases (at ls true) (case_templates name_of label_of lookup cs)) (both (are_distinct (declared (templates ss))) (are_proper (at ls true) (templates ss)) (distinct-templates ss h.0) (proper-templates ls true ss h.1)) (proper-cases ls cs h.2)

-- What statements declare.
use Rattle.std.proofs.Common.{◌≡◌, ℕ, ◌≤◌, Bool, true, false, ◌||◌, List, refl, sym, ◌⊎◌, inl, inr, ⊎_elim}
use Rattle.agree_body_rules.specs.Lookup.{Lookup}
use Rattle.std.specs.Prelude.{nat_eq}
use Rattle.std.specs.Cmp.Lexicographic.{pointwise}
use Rattle.js_mean.specs.Proper.{is_among, declared}
use Rattle.js_mean.specs.Terms.{Name}
use Rattle.agree_body_rules.specs.Terms as core
use Rattle.agree_body_rules.specs.Terms.{followed}
use Rattle.agree_body_rules.specs.Templates.{statement_templates}
pub use Rattle.agree_body_rules.specs.Locals.{Own, OwnAll, OwnCases}
use Rattle.agree_body_rules.proofs.Equal.{is-equal}
use Rattle.sj_names.proofs.Same.{impossible}

abbrev pub DeclaresOne : core.Statement → core.Variable → Type 0
DeclaresOne (core.constant_of p x e) y = x ≡ y
DeclaresOne (core.define_of p x e) y = x ≡ y
DeclaresOne (core.declare_of p x) y = x ≡ y
DeclaresOne _ y = ⊥

-- statements declare a variable themselves, and not in a block inside them
abbrev pub Declares : core.Statements → core.Variable → Type 0
Declares core.no_statements y = ⊥
Declares (core.statement s ss) y = DeclaresOne s y ⊎ Declares ss y

pub declares-followed : (a b : core.Statements) (y : core.Variable) → Declares (followed a b) y → Declares a y ⊎ Declares b y
declares-followed core.no_statements b y h = inr h
declares-followed (core.statement s ss) b y (inl h) = inl (inl h)
declares-followed (core.statement s ss) b y (inr h) = ⊎_elim (λ i. inl (inr i)) (λ i. inr i) (declares-followed ss b y h)

-- the variable that a declared name stands for
pub record Named (name_of : core.Variable → Name) (label_of : List ℕ → Name) (lookup : Lookup) (ss : core.Statements) (n : Name) : Type 0 where
  pub variable : core.Variable
  pub name : name_of variable ≡ n
  pub declares : Declares ss variable

later : (name_of : core.Variable → Name) (label_of : List ℕ → Name) (lookup : Lookup) (s : core.Statement) (ss : core.Statements) (n : Name) → Named name_of label_of lookup ss n → Named name_of label_of lookup (core.statement s ss) n
later name_of label_of lookup s ss n h = record { variable = h.variable; name = h.name; declares = inr h.declares }

here_or_later : (name_of : core.Variable → Name) (label_of : List ℕ → Name) (lookup : Lookup) (s : core.Statement) (ss : core.Statements) (n : Name) (x : core.Variable) (rest : Bool) → DeclaresOne s x → (pointwise nat_eq n (name_of x) || rest) ≡ true → (rest ≡ true → Named name_of label_of lookup ss n) → Named name_of label_of lookup (core.statement s ss) n
here_or_later name_of label_of lookup s ss n x rest d h k = go (pointwise nat_eq n (name_of x)) refl h
  where
    go : (b : Bool) → pointwise nat_eq n (name_of x) ≡ b → (b || rest) ≡ true → Named name_of label_of lookup (core.statement s ss) n
    go true e h = record { variable = x; name = sym (is-equal n (name_of x) e); declares = inl d }
    go false e h = later name_of label_of lookup s ss n (k h)

pub declared-named : (name_of : core.Variable → Name) (label_of : List ℕ → Name) (lookup : Lookup) (ss : core.Statements) (n : Name) → is_among (declared (statement_templates name_of label_of lookup ss)) n ≡ true → Named name_of label_of lookup ss n
declared-named name_of label_of lookup core.no_statements n h = impossible h
declared-named name_of label_of lookup (core.statement (core.constant_of p x e) ss) n h = here_or_later name_of label_of lookup (core.constant_of p x e) ss n x (is_among (declared (statement_templates name_of label_of lookup ss)) n) refl h (declared-named name_of label_of lookup ss n)
declared-named name_of label_of lookup (core.statement (core.define_of p x e) ss) n h = here_or_later name_of label_of lookup (core.define_of p x e) ss n x (is_among (declared (statement_templates name_of label_of lookup ss)) n) refl h (declared-named name_of label_of lookup ss n)
declared-named name_of label_of lookup (core.statement (core.declare_of p x) ss) n h = here_or_later name_of label_of lookup (core.declare_of p x) ss n x (is_among (declared (statement_templates name_of label_of lookup ss)) n) refl h (declared-named name_of label_of lookup ss n)
declared-named name_of label_of lookup (core.statement (core.if_of p c a core.no_statements) ss) n h = later name_of label_of lookup (core.if_of p c a core.no_statements) ss n (declared-named name_of label_of lookup ss n h)
declared-named name_of label_of lookup (core.statement (core.if_of p c a (core.statement t ts)) ss) n h = later name_of label_of lookup (core.if_of p c a (core.statement t ts)) ss n (declared-named name_of label_of lookup ss n h)
declared-named name_of label_of lookup (core.statement s ss) n h = later name_of label_of lookup s ss n (declared-named name_of label_of lookup ss n h)

-- a local of these, or a variable for an operand from this number on
abbrev pub IsNew : (List ℕ → Type 0) → ℕ → core.Variable → Type 0
IsNew own j (core.named x) = own x
IsNew own j (core.numbered k) = j ≤ k
IsNew own j core.receiver = ⊥

-- With too few units casts are going, without a line.
use Rattle.std.specs.Prelude.{◌≡◌, ◌≢◌, ℕ, suc, List, [], ◌∷◌, Some}
use Rattle.js_tree.specs.Terms.{Name}
use Rattle.outcomes.specs.Outcome.{going}
use Rattle.js_mean.specs.States.{Value, null, ClassLink, State, Program}
use Rattle.js_mean.specs.Meaning.{below, code_of, code_call}
use Rattle.class_tests.specs.Kind.{Kind}
use Rattle.class_casts.specs.Kinds.{cast_code, CastStands}
use Rattle.class_casts.specs.Classes.{class_cast_code, class_test_name, ClassCastStands, HijackedCastStands}
use Rattle.class_casts.specs.Worlds.{TestedCastStands, test_units}

-- a cast without a unit; and on a value other than null the cast of a kind within one, and that of a class within one more than its test goes on, so within what that costs
pub record ShortCastsGo : Type 0 where
  pub kind_without : (p : Program) (g : Name) (k : Kind) (vs : List Value) (s : State) → code_call (below p 0) g (Some (cast_code k)) vs s ≡ going
  pub class_without : (p : Program) (g : Name) (c : Name) (vs : List Value) (s : State) → code_call (below p 0) g (Some (class_cast_code c)) vs s ≡ going
  pub of_kind : (p : Program) (g : Name) (boxes : List ClassLink) (s : State) (k : Kind) (v : Value) → CastStands p g boxes s k → v ≢ null → code_call (below p 1) g (Some (cast_code k)) (v ∷ []) s ≡ going
  pub test_going : (p : Program) (n : ℕ) (g : Name) (s : State) (c : Name) (v : Value) (st : ClassCastStands p g s c) → v ≢ null → code_call (below p n) st.test_home (code_of p st.test_home (class_test_name c)) (v ∷ []) s ≡ going → code_call (below p (suc n)) g (Some (class_cast_code c)) (v ∷ []) s ≡ going
  pub class_within_1 : (p : Program) (g : Name) (boxes : List ClassLink) (s : State) (c : Name) (kinds : List Kind) (v : Value) → TestedCastStands p g boxes s c kinds → v ≢ null → code_call (below p 1) g (Some (class_cast_code c)) (v ∷ []) s ≡ going
  pub of_class : (p : Program) (g : Name) (boxes : List ClassLink) (s : State) (c : Name) (kinds : List Kind) (v : Value) → TestedCastStands p g boxes s c kinds → v ≢ null → code_call (below p (test_units kinds)) g (Some (class_cast_code c)) (v ∷ []) s ≡ going
  pub hijacked_within_1 : (p : Program) (g : Name) (boxes : List ClassLink) (s : State) (c : Name) (k : Kind) (v : Value) → HijackedCastStands p g boxes s c k → v ≢ null → code_call (below p 1) g (Some (class_cast_code c)) (v ∷ []) s ≡ going
  pub of_hijacked : (p : Program) (g : Name) (boxes : List ClassLink) (s : State) (c : Name) (k : Kind) (v : Value) → HijackedCastStands p g boxes s c k → v ≢ null → code_call (below p 2) g (Some (class_cast_code c)) (v ∷ []) s ≡ going

-- The cast of a class gives null and instances, by the world.
use Rattle.std.specs.Prelude.{◌≡◌, ℕ, ℤ, ◌+◌, suc, true, false, List, [], ◌∷◌, slice_get, Option, Some, None, codes}
use Rattle.js_tree.specs.Terms.{Name}
use Rattle.outcomes.specs.Outcome.{done}
use Rattle.class_tests.specs.Known.{Classes, is_hijacked}
use Rattle.class_tests.specs.Calls.{IsInstance}
use Rattle.class_tests.specs.Tables.{AreAncestors}
use Rattle.js_mean.specs.Objects.{property, no_properties}
use Rattle.js_mean.specs.States.{Value, object, ClassLink, plain, State, gives, Program}
use Rattle.js_mean.specs.Meaning.{below, code_of, code_call}
use Rattle.class_tests.specs.Tops.{literal_properties}
use Rattle.class_tests.specs.Kind.{Kind}
use Rattle.class_tests.specs.Helpers.{constants}
use Rattle.class_tests.specs.Words.{kind_class, worded_kinds, units_of}
use Rattle.class_tests.specs.Classes.{AreInstances}
use Rattle.class_tests.specs.Kinds.{is_of}
use Rattle.class_tests.specs.Tests.{TestsStand, class_test_code}
use Rattle.class_tests.specs.Instances.{is_worded}
use Rattle.class_casts.specs.Kinds.{failed}
use Rattle.class_casts.specs.Classes.{class_cast_code, class_test_name, ClassCastStands}

-- the cast of a class and its test, by the marker of the class and these kinds
pub record TestedCastStands (p : Program) (g : Name) (boxes : List ClassLink) (s : State) (c : Name) (kinds : List Kind) : Type 0 where
  pub cast : ClassCastStands p g s c
  pub test_is : code_of p cast.test_home (class_test_name c) ≡ Some (class_test_code c kinds)
  pub tests : TestsStand p cast.test_home boxes s kinds

-- the object has the constants of this class, as the world has the classes above it
pub record HasConstantsOf (w : Classes) (p : Program) (s : State) (a : ℕ) (d : Name) : Type 0 where
  pub at : ℕ
  pub ancestors : List Name
  pub own : Name → Option Value
  pub constants_at : property p s (object a) (codes "k") ≡ Some (object at)
  pub stored : slice_get s.heap at ≡ Some (plain [] own)
  pub above : AreAncestors w d ancestors
  pub constants_are : literal_properties (constants d ancestors) no_properties ≡ Some own

-- what `is_C` costs on a value other than null: one unit, and one for the tests of kinds that it calls
abbrev pub test_units : List Kind → ℕ
test_units [] = 1
test_units (k ∷ ks) = 2

-- within one unit more than these the cast gives the value where it is an instance; where it is none it comes to what `$cce` comes to within these on the name of the class
pub record GivesInstances (p : Program) (units : ℕ) (g throwing_home : Name) (s : State) (c : Name) (v : Value) (is_instance : Type 0) : Type 0 where
  pub given : is_instance → code_call (below p (suc units)) g (Some (class_cast_code c)) (v ∷ []) s ≡ done (gives v s)
  pub refused : (is_instance → ⊥) → code_call (below p (suc units)) g (Some (class_cast_code c)) (v ∷ []) s ≡ failed p units throwing_home (units_of c) s

-- for a class that isn't hijacked: on a primitive value but a char, and on an object, which may be a boxed char
pub record CastsAreOfTheWorld : Type 0 where
  pub of_primitive : (w : Classes) (p : Program) (n : ℕ) (g : Name) (boxes : List ClassLink) (s : State) (c : Name) (kinds : List Kind) (st : TestedCastStands p g boxes s c kinds) (k : Kind) (v : Value) (number : Option ℤ) →
      is_hijacked c ≡ false → AreInstances w c worded_kinds kinds → is_worded k ≡ true → is_of s boxes k v ≡ true → GivesInstances p (test_units kinds + n) g st.cast.throwing_home s c v (IsInstance w (kind_class k) number c)
  pub of_object : (w : Classes) (p : Program) (n : ℕ) (g : Name) (boxes : List ClassLink) (s : State) (c : Name) (kinds : List Kind) (st : TestedCastStands p g boxes s c kinds) (a : ℕ) (d : Name) →
      is_hijacked c ≡ false → AreInstances w c worded_kinds kinds → HasConstantsOf w p s a d → GivesInstances p (test_units kinds + n) g st.cast.throwing_home s c (object a) (IsInstance w d None c)

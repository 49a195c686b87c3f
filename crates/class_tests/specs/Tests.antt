-- The test of a class, and its markers.
use Rattle.std.specs.Prelude.{◌≡◌, ◌↔◌, ℕ, ℤ, suc, Bool, true, false, ◌||◌, List, [], ◌∷◌, slice_get, Option, Some, None, is_some, codes}
use Rattle.js_tree.specs.Terms.{Name}
use Rattle.outcomes.specs.Outcome.{done}
use Rattle.class_code.specs.Known.{Classes}
use Rattle.class_code.specs.Ancestors.{IsAncestor}
use Rattle.class_code.specs.Tables.{AreAncestors}
use Rattle.js_mean.specs.Objects.{property, no_properties}
use Rattle.js_mean.specs.States.{Value, undefined, null, boolean, number, big_int, text, object, ClassLink, plain, State, gives, Program}
use Rattle.js_mean.specs.Meaning.{Code, below, code_of, code_call}
use Rattle.class_code.specs.Tops.{literal_properties}
use Rattle.class_code.specs.Bridges.{IsTopFunction}
use Rattle.class_code.specs.Kind.{Kind}
use Rattle.class_code.specs.KindVariants.{Char}
use Rattle.class_code.specs.Words.{is_name, marker, only_return}
use Rattle.class_code.specs.Helpers.{constants}
use Rattle.class_code.specs.Pieces.{instance_test}
use Rattle.class_tests.specs.Kinds.{is_of, is_told, test_code, BoxesStand}

-- the constants of a class have the marker of another exactly where that one stands above it
abbrev pub MarkersTell : Type 0
MarkersTell = (w : Classes) (d c : Name) (names : List Name) (own : Name → Option Value) → AreAncestors w d names → literal_properties (constants d names) no_properties ≡ Some own → (is_some (own (marker c)) ≡ true) ↔ IsAncestor w d c

-- whether a value other than null has the marker of a class: an object has constants under `k`, any other has none
pub data HasMarker (p : Program) (s : State) (c : Name) : Value → Bool → Type 0 where
  on_object : (a b : ℕ) (own : Name → Option Value) → property p s (object a) (codes "k") ≡ Some (object b) → slice_get s.heap b ≡ Some (plain [] own) → HasMarker p s c (object a) (is_some (own (marker c)))
  on_undefined : HasMarker p s c undefined false
  on_boolean : (b : Bool) → HasMarker p s c (boolean b) false
  on_number : (z : ℤ) → HasMarker p s c (number z) false
  on_big_int : (z : ℤ) → HasMarker p s c (big_int z) false
  on_text : (us : List ℕ) → HasMarker p s c (text us) false

-- the test of a kind stands in the program
pub record TestStands (p : Program) (g : Name) (boxes : List ClassLink) (s : State) (k : Kind) : Type 0 where
  pub home : Name
  pub kind_told : is_told k ≡ true
  pub test : IsTopFunction p g (is_name k) home s
  pub test_is : code_of p home (is_name k) ≡ Some (test_code k)
  pub boxes_stand : k ≡ Char → BoxesStand p home boxes s

pub data TestsStand (p : Program) (g : Name) (boxes : List ClassLink) (s : State) : List Kind → Type 0 where
  tests_none : TestsStand p g boxes s []
  tests_more : (k : Kind) (ks : List Kind) → TestStands p g boxes s k → TestsStand p g boxes s ks → TestsStand p g boxes s (k ∷ ks)

abbrev pub class_test_code : Name → List Kind → Code
class_test_code c kinds = record { parameters = codes "x" ∷ []; body = only_return (instance_test c kinds None) }

-- one of the kinds, or the marker
abbrev pub class_told : State → List ClassLink → List Kind → Value → Bool → Bool
class_told s boxes [] v b = b
class_told s boxes (k ∷ ks) v b = is_of s boxes k v || class_told s boxes ks v b

-- `is_C` costs at most two units, and tells whether its value is of one of the kinds or has the marker; null is neither
abbrev pub ClassTestsTell : Type 0
ClassTestsTell = (p : Program) (n : ℕ) (g : Name) (boxes : List ClassLink) (s : State) (c : Name) (kinds : List Kind) (v : Value) (b : Bool) → TestsStand p g boxes s kinds → HasMarker p s c v b → code_call (below p (suc (suc n))) g (Some (class_test_code c kinds)) (v ∷ []) s ≡ done (gives (boolean (class_told s boxes kinds v b)) s)

abbrev pub NullIsNoInstance : Type 0
NullIsNoInstance = (p : Program) (n : ℕ) (g : Name) (s : State) (c : Name) (kinds : List Kind) → code_call (below p (suc n)) g (Some (class_test_code c kinds)) (null ∷ []) s ≡ done (gives (boolean false) s)

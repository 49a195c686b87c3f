-- The helper that tells whether arrays of one type are of another.
use Rattle.std.specs.Prelude.{◌≡◌, ℕ, suc, Bool, true, false, ◌&&◌, List, [], ◌∷◌, pos, slice_get, nat_eq, nat_lt, Option, Some, is_some, codes, if◌then◌else◌}
use Rattle.js_tree.specs.Names.{is_same_text}
use Rattle.js_tree.specs.Terms.{Name}
use Rattle.outcomes.specs.Outcome.{done}
use Rattle.js_mean.specs.Objects.{no_properties}
use Rattle.js_mean.specs.States.{Value, boolean, number, text, object, Stored, plain, State, gives, Program}
use Rattle.js_mean.specs.Meaning.{below, code_call}
use Rattle.class_casts.specs.HelperVariants.{Covers}
use Rattle.class_casts.specs.Words.{object_class, marker}
use Rattle.array_code.specs.Codes.{helper_code}

-- the constants of a class, at an address, with its own marker under `s`
pub record AreConstants (s : State) (a : ℕ) (c : Name) (own : Name → Option Value) : Type 0 where
  pub stored : slice_get s.heap a ≡ Some (plain [] own)
  pub marker_is : own (codes "s") ≡ Some (text (marker c))

-- the type of the elements of arrays: a primitive type by its letter, or a class by its constants
pub data IsElementType (s : State) : Value → Type 0 where
  primitive : (us : List ℕ) → IsElementType s (text us)
  of_class : (a : ℕ) (c : Name) (own : Name → Option Value) → AreConstants s a c own → IsElementType s (object a)

-- what stands under the names of an object that is written as a literal
abbrev pub own_of : Option Stored → Name → Option Value
own_of (Some (plain [] own)) = own
own_of _ = no_properties

abbrev pub text_in : Option Value → List ℕ
text_in (Some (text us)) = us
text_in _ = []

-- the marker of the class whose constants stand at an address
abbrev pub marker_at : State → ℕ → Name
marker_at s a = text_in (own_of (slice_get s.heap a) (codes "s"))

-- whether elements of the type e are of the type d: the same primitive type, or a class with the marker of the other
abbrev pub covers_element : State → Value → Value → Bool
covers_element s (text us) (text vs) = is_same_text us vs
covers_element s (object a) (object b) = is_some (own_of (slice_get s.heap a) (marker_at s b))
covers_element s _ _ = false

abbrev pub is_object_class : State → Value → Bool
is_object_class s (object b) = is_same_text (marker_at s b) (marker object_class)
is_object_class s _ = false

-- whether arrays of depth n with elements of the type e are arrays of depth m with elements of the type d: deeper arrays are objects
abbrev pub covers : State → ℕ → Value → ℕ → Value → Bool
covers s n e m d = if nat_eq n m then covers_element s e d else (nat_lt m n && is_object_class s d)

-- `$cov` costs one unit
abbrev pub CoversTells : Type 0
CoversTells = (p : Program) (i : ℕ) (g : Name) (s : State) (n m : ℕ) (e d : Value) → IsElementType s e → IsElementType s d → code_call (below p (suc i)) g (Some (helper_code Covers)) (number (pos n) ∷ e ∷ number (pos m) ∷ d ∷ []) s ≡ done (gives (boolean (covers s n e m d)) s)

-- by cases: of equal depth two primitive types cover each other where they are the same, no primitive type covers a class or is covered by one, and a class covers another by its marker; arrays of another depth are covered by the class of all objects alone, where they are deeper
pub record CoverCases : Type 0 where
  pub primitives : (s : State) (n : ℕ) (us vs : List ℕ) → covers s n (text us) n (text vs) ≡ is_same_text us vs
  pub class_by_primitive : (s : State) (n a : ℕ) (vs : List ℕ) → covers s n (object a) n (text vs) ≡ false
  pub primitive_by_class : (s : State) (n : ℕ) (us : List ℕ) (b : ℕ) → covers s n (text us) n (object b) ≡ false
  pub classes : (s : State) (n a b : ℕ) (c d : Name) (own other : Name → Option Value) → AreConstants s a c own → AreConstants s b d other → covers s n (object a) n (object b) ≡ is_some (own (marker d))
  pub deeper_by_class : (s : State) (n m : ℕ) (e : Value) (b : ℕ) (d : Name) (other : Name → Option Value) → nat_lt m n ≡ true → AreConstants s b d other → covers s n e m (object b) ≡ is_same_text (marker d) (marker object_class)
  pub deeper_by_primitive : (s : State) (n m : ℕ) (e : Value) (vs : List ℕ) → nat_lt m n ≡ true → covers s n e m (text vs) ≡ false
  pub shallower : (s : State) (n m : ℕ) (e d : Value) → nat_lt n m ≡ true → covers s n e m d ≡ false

-- The helpers that give what is known of the class of a value, and tell whether a value may be an element of an array.
use Rattle.std.specs.Prelude.{◌≡◌, ℕ, ℤ, suc, ◌^◌, Bool, true, false, List, [], ◌∷◌, pos, nat_lt, Option, Some, is_some, codes, if◌then◌else◌}
use Rattle.js_tree.specs.Names.{is_same_text}
use Rattle.js_tree.specs.Terms.{Name}
use Rattle.outcomes.specs.Outcome.{done, going}
use Rattle.js_mean.specs.Files.{owner}
use Rattle.js_mean.specs.Objects.{property}
use Rattle.js_mean.specs.States.{Value, undefined, boolean, number, big_int, text, object, ClassLink, holds, State, gives, Program}
use Rattle.js_mean.specs.Meaning.{below, top_cell, code_call}
use Rattle.class_casts.specs.ClassTestsKinds.{is_box, is_of}
use Rattle.class_casts.specs.Helpers.{helper_name}
use Rattle.class_casts.specs.HelperVariants.{ClassOf, ConstantsOf, Covers, Fits, TestOf}
use Rattle.class_casts.specs.Kind.{Kind}
use Rattle.class_casts.specs.KindVariants.{Undefined, Boolean, Byte, Short, Int, Long, Text}
use Rattle.class_casts.specs.Tests.{TestStands}
use Rattle.class_casts.specs.Words.{kind_class, marker, worded_kinds}
use Rattle.class_casts.specs.Kinds.{passes}
use Rattle.array_code.specs.Arrays.{IsArrayObject, ArraysStand}
use Rattle.array_code.specs.Codes.{helper_code, helper_call, UsesHelper}
use Rattle.array_code.specs.Covering.{AreConstants, IsElementType, covers}

-- in this file the constants of the class of a kind are under their name
pub record ConstantsStand (p : Program) (g : Name) (s : State) (k : Kind) (a : ℕ) : Type 0 where
  pub const : Bool
  pub cell_is : top_cell (owner p g (helper_name (ConstantsOf k))) (helper_name (ConstantsOf k)) s ≡ holds const (object a)

-- what `$kof` uses: the test of each kind, and the constants of its class
pub data ClassesStand (p : Program) (g : Name) (boxes : List ClassLink) (s : State) (at : Kind → ℕ) : List Kind → Type 0 where
  classes_none : ClassesStand p g boxes s at []
  classes_more : (k : Kind) (ks : List Kind) → TestStands p g boxes s k → ConstantsStand p g s k (at k) → ClassesStand p g boxes s at ks → ClassesStand p g boxes s at (k ∷ ks)

-- the constants of the first of these kinds that the value is of, else what it has under `k`
abbrev pub class_value : Program → State → List ClassLink → (Kind → ℕ) → List Kind → Value → Option Value
class_value p s boxes at [] v = property p s v (codes "k")
class_value p s boxes at (k ∷ ks) v = if is_of s boxes k v then Some (object (at k)) else class_value p s boxes at ks v

-- `$kof` costs two units, and gives the constants of the class of a primitive value by its kind, and those of an object; within one unit it is going
pub record ClassesTell : Type 0 where
  pub tells : (p : Program) (n : ℕ) (g : Name) (boxes : List ClassLink) (s : State) (at : Kind → ℕ) (v w : Value) → ClassesStand p g boxes s at worded_kinds → class_value p s boxes at worded_kinds v ≡ Some w → code_call (below p (suc (suc n))) g (Some (helper_code ClassOf)) (v ∷ []) s ≡ done (gives w s)
  pub within_1 : (p : Program) (g : Name) (boxes : List ClassLink) (s : State) (at : Kind → ℕ) (v : Value) → ClassesStand p g boxes s at worded_kinds → code_call (below p 1) g (Some (helper_code ClassOf)) (v ∷ []) s ≡ going
  pub of_undefined : (p : Program) (s : State) (boxes : List ClassLink) (at : Kind → ℕ) → class_value p s boxes at worded_kinds undefined ≡ Some (object (at Undefined))
  pub of_boolean : (p : Program) (s : State) (boxes : List ClassLink) (at : Kind → ℕ) (b : Bool) → class_value p s boxes at worded_kinds (boolean b) ≡ Some (object (at Boolean))
  pub of_number : (p : Program) (s : State) (boxes : List ClassLink) (at : Kind → ℕ) (z : ℤ) → class_value p s boxes at worded_kinds (number z) ≡ Some (object (at Int))
  pub of_big_int : (p : Program) (s : State) (boxes : List ClassLink) (at : Kind → ℕ) (z : ℤ) → class_value p s boxes at worded_kinds (big_int z) ≡ Some (object (at Long))
  pub of_text : (p : Program) (s : State) (boxes : List ClassLink) (at : Kind → ℕ) (us : List ℕ) → class_value p s boxes at worded_kinds (text us) ≡ Some (object (at Text))
  pub of_object : (p : Program) (s : State) (boxes : List ClassLink) (at : Kind → ℕ) (a : ℕ) → class_value p s boxes at worded_kinds (object a) ≡ property p s (object a) (codes "k")

-- what `$fits` uses: the class of arrays, the helper that tells types of arrays, the tests of bytes and shorts, and the class of a value
pub record FitsStand (p : Program) (g : Name) (links : List ClassLink) (s : State) : Type 0 where
  pub arrays : ArraysStand p g links s
  pub covering : UsesHelper p g Covers s
  pub byte : UsesHelper p g (TestOf Byte) s
  pub short : UsesHelper p g (TestOf Short) s
  pub class_of : UsesHelper p g ClassOf s

-- `$fits` on an array of the depth suc m with m above 0: a value that is no array is none of its elements, at one unit; an array is one where it is covered at the depth m, at two
pub record DeepFitsTell : Type 0 where
  pub of_other : (p : Program) (i : ℕ) (g : Name) (links : List ClassLink) (s : State) (v e : Value) (m : ℕ) → FitsStand p g links s → nat_lt 0 m ≡ true → is_box s links v ≡ false →
      code_call (below p (suc i)) g (Some (helper_code Fits)) (v ∷ number (pos (suc m)) ∷ e ∷ []) s ≡ done (gives (boolean false) s)
  pub of_array : (p : Program) (i : ℕ) (g : Name) (l : ClassLink) (above : List ClassLink) (s : State) (a n : ℕ) (f : Value) (b : ℕ) (items : List Value) (e : Value) (m : ℕ) → FitsStand p g (l ∷ above) s → nat_lt 0 m ≡ true → nat_lt m (2 ^ 31) ≡ true → IsArrayObject (l ∷ above) s a n f b items → IsElementType s f → IsElementType s e →
      code_call (below p (suc (suc i))) g (Some (helper_code Fits)) (object a ∷ number (pos (suc m)) ∷ e ∷ []) s ≡ done (gives (boolean (covers s n f m e)) s)

-- `$fits` on an array of depth 1, whose elements are of the class c: bytes and shorts by their tests, at two units; any other value has the marker of c among the constants that `$kof` gives, at one unit more than that
pub record FlatFitsTell : Type 0 where
  pub of_byte : (p : Program) (i : ℕ) (g : Name) (links : List ClassLink) (s : State) (v : Value) (a : ℕ) (own : Name → Option Value) → FitsStand p g links s → AreConstants s a (kind_class Byte) own →
      code_call (below p (suc (suc i))) g (Some (helper_code Fits)) (v ∷ number (pos 1) ∷ object a ∷ []) s ≡ done (gives (boolean (passes s links Byte v)) s)
  pub of_short : (p : Program) (i : ℕ) (g : Name) (links : List ClassLink) (s : State) (v : Value) (a : ℕ) (own : Name → Option Value) → FitsStand p g links s → AreConstants s a (kind_class Short) own →
      code_call (below p (suc (suc i))) g (Some (helper_code Fits)) (v ∷ number (pos 1) ∷ object a ∷ []) s ≡ done (gives (boolean (passes s links Short v)) s)
  pub of_class : (p : Program) (i : ℕ) (g : Name) (links : List ClassLink) (s : State) (v : Value) (a : ℕ) (c : Name) (own : Name → Option Value) (k : ℕ) (d : Name) (other : Name → Option Value) (uses : FitsStand p g links s) → AreConstants s a c own →
      is_same_text (marker c) (marker (kind_class Byte)) ≡ false → is_same_text (marker c) (marker (kind_class Short)) ≡ false → helper_call p i uses.class_of.home ClassOf (v ∷ []) s ≡ done (gives (object k) s) → AreConstants s k d other →
      code_call (below p (suc i)) g (Some (helper_code Fits)) (v ∷ number (pos 1) ∷ object a ∷ []) s ≡ done (gives (boolean (is_some (other (marker c)))) s)

-- with fewer units it is going
pub record ShortFitsGo : Type 0 where
  pub of_array : (p : Program) (g : Name) (l : ClassLink) (above : List ClassLink) (s : State) (a n : ℕ) (f : Value) (b : ℕ) (items : List Value) (e : Value) (m : ℕ) → FitsStand p g (l ∷ above) s → nat_lt 0 m ≡ true → nat_lt m (2 ^ 31) ≡ true → IsArrayObject (l ∷ above) s a n f b items →
      code_call (below p 1) g (Some (helper_code Fits)) (object a ∷ number (pos (suc m)) ∷ e ∷ []) s ≡ going
  pub of_byte : (p : Program) (g : Name) (links : List ClassLink) (s : State) (v : Value) (a : ℕ) (own : Name → Option Value) → FitsStand p g links s → AreConstants s a (kind_class Byte) own → code_call (below p 1) g (Some (helper_code Fits)) (v ∷ number (pos 1) ∷ object a ∷ []) s ≡ going
  pub of_short : (p : Program) (g : Name) (links : List ClassLink) (s : State) (v : Value) (a : ℕ) (own : Name → Option Value) → FitsStand p g links s → AreConstants s a (kind_class Short) own → code_call (below p 1) g (Some (helper_code Fits)) (v ∷ number (pos 1) ∷ object a ∷ []) s ≡ going
  pub of_class : (p : Program) (i : ℕ) (g : Name) (links : List ClassLink) (s : State) (v : Value) (a : ℕ) (c : Name) (own : Name → Option Value) (uses : FitsStand p g links s) → AreConstants s a c own →
      is_same_text (marker c) (marker (kind_class Byte)) ≡ false → is_same_text (marker c) (marker (kind_class Short)) ≡ false → helper_call p i uses.class_of.home ClassOf (v ∷ []) s ≡ going →
      code_call (below p (suc i)) g (Some (helper_code Fits)) (v ∷ number (pos 1) ∷ object a ∷ []) s ≡ going

-- The test of an array type and the cast to it.
use Rattle.std.specs.Prelude.{◌≡◌, ◌≢◌, ℕ, suc, Bool, false, List, [], ◌∷◌, pos, Some, if◌then◌else◌}
use Rattle.js_tree.specs.Terms.{Name}
use Rattle.outcomes.specs.Outcome.{done, going}
use Rattle.js_mean.specs.States.{Value, null, boolean, number, text, object, ClassLink, State, gives, Program}
use Rattle.js_mean.specs.Meaning.{below, code_call}
use Rattle.class_casts.specs.ClassTestsKinds.{is_box}
use Rattle.class_casts.specs.FailureVariants.{Cast}
use Rattle.class_casts.specs.HelperVariants.{CastToArray, Covers, TestOfArray, Throws}
use Rattle.array_code.specs.Arrays.{IsArrayObject, ArraysStand}
use Rattle.array_code.specs.Codes.{helper_code, helper_call, UsesHelper, UsesThrower}
use Rattle.array_code.specs.Covering.{IsElementType, covers}

-- what `$isA` uses: the class of arrays, and the helper that tells their types
pub record ArrayTestStands (p : Program) (g : Name) (links : List ClassLink) (s : State) : Type 0 where
  pub arrays : ArraysStand p g links s
  pub covering : UsesHelper p g Covers s

-- `$isA` tells whether a value is an array that the type covers: at one unit where it is no array, at two where it is one; then within one it is going
pub record ArrayTestsTell : Type 0 where
  pub of_other : (p : Program) (i : ℕ) (g : Name) (links : List ClassLink) (s : State) (v m d : Value) → ArrayTestStands p g links s → is_box s links v ≡ false → code_call (below p (suc i)) g (Some (helper_code TestOfArray)) (v ∷ m ∷ d ∷ []) s ≡ done (gives (boolean false) s)
  pub of_array : (p : Program) (i : ℕ) (g : Name) (l : ClassLink) (above : List ClassLink) (s : State) (a n : ℕ) (e : Value) (b : ℕ) (items : List Value) (m : ℕ) (d : Value) → ArrayTestStands p g (l ∷ above) s → IsArrayObject (l ∷ above) s a n e b items → IsElementType s e → IsElementType s d →
      code_call (below p (suc (suc i))) g (Some (helper_code TestOfArray)) (object a ∷ number (pos m) ∷ d ∷ []) s ≡ done (gives (boolean (covers s n e m d)) s)
  pub within_1 : (p : Program) (g : Name) (l : ClassLink) (above : List ClassLink) (s : State) (a n : ℕ) (e : Value) (b : ℕ) (items : List Value) (m d : Value) → ArrayTestStands p g (l ∷ above) s → IsArrayObject (l ∷ above) s a n e b items → code_call (below p 1) g (Some (helper_code TestOfArray)) (object a ∷ m ∷ d ∷ []) s ≡ going

-- what `$asA` uses: the test, and the function that throws
pub record ArrayCastStands (p : Program) (g : Name) (s : State) : Type 0 where
  pub test : UsesHelper p g TestOfArray s
  pub cast : UsesThrower p g (Throws Cast) s

-- `$asA` gives null for null at one unit; on any other value it costs one more than `$isA`, and gives the value where that is true; else it comes, at one unit more, to what `$cce` comes to on the name of the type
pub record ArrayCastsTell : Type 0 where
  pub of_null : (p : Program) (i : ℕ) (g : Name) (s : State) (m d t : Value) → code_call (below p (suc i)) g (Some (helper_code CastToArray)) (null ∷ m ∷ d ∷ t ∷ []) s ≡ done (gives null s)
  pub of_other : (p : Program) (i : ℕ) (g : Name) (s : State) (v m d : Value) (us : List ℕ) (b : Bool) (uses : ArrayCastStands p g s) → v ≢ null → helper_call p i uses.test.home TestOfArray (v ∷ m ∷ d ∷ []) s ≡ done (gives (boolean b) s) →
      code_call (below p (suc i)) g (Some (helper_code CastToArray)) (v ∷ m ∷ d ∷ text us ∷ []) s ≡ (if b then done (gives v s) else helper_call p i uses.cast.home (Throws Cast) (text us ∷ []) s)
  pub test_going : (p : Program) (i : ℕ) (g : Name) (s : State) (v m d t : Value) (uses : ArrayCastStands p g s) → v ≢ null → helper_call p i uses.test.home TestOfArray (v ∷ m ∷ d ∷ []) s ≡ going → code_call (below p (suc i)) g (Some (helper_code CastToArray)) (v ∷ m ∷ d ∷ t ∷ []) s ≡ going

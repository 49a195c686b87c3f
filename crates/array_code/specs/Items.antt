-- The helpers that check an index, and read and set items.
use Rattle.std.specs.Prelude.{◌≡◌, ◌≢◌, ℕ, ℤ, suc, ◌-◌, ◌^◌, Bool, true, false, List, [], ◌∷◌, pos, negsuc, length, set, nat_lt, Some}
use Rattle.js_tree.specs.Terms.{Name}
use Rattle.outcomes.specs.Outcome.{done, going}
use Rattle.js_mean.specs.Objects.{at_address, item_at}
use Rattle.js_mean.specs.States.{Value, undefined, null, boolean, number, object, ClassLink, array, State, gives, Program}
use Rattle.js_mean.specs.Meaning.{below, code_call}
use Rattle.class_casts.specs.FailureVariants.{Index, Store}
use Rattle.class_casts.specs.HelperVariants.{CheckIndex, Fits, Get, Put, Set, Throws}
use Rattle.array_code.specs.Arrays.{IsArrayObject}
use Rattle.array_code.specs.Codes.{helper_code, helper_call, UsesHelper, UsesThrower, GivesNone}

-- whether an index is one of an array with so many items
abbrev pub is_index : ℕ → ℤ → Bool
is_index k (pos n) = nat_lt n k
is_index k (negsuc n) = false

-- an array of at most 2 ^ 32 - 1 items has an item set at one of its indices
abbrev pub with_item_set : ℕ → List Value → ℕ → Value → State → State
with_item_set b items k v s = at_address b (array (set items k v)) s

-- `$ix` costs one unit, and gives undefined on an index of the array; on any other it comes to what `$ioe` comes to on that
pub record ChecksTell : Type 0 where
  pub inside : (p : Program) (n : ℕ) (g : Name) (links : List ClassLink) (s : State) (a depth : ℕ) (element : Value) (b : ℕ) (items : List Value) (z : ℤ) → IsArrayObject links s a depth element b items → is_index (length items) z ≡ true →
      code_call (below p (suc n)) g (Some (helper_code CheckIndex)) (object a ∷ number z ∷ []) s ≡ done (gives undefined s)
  pub outside : (p : Program) (n : ℕ) (g : Name) (links : List ClassLink) (s : State) (a depth : ℕ) (element : Value) (b : ℕ) (items : List Value) (z : ℤ) (index : UsesThrower p g (Throws Index) s) → IsArrayObject links s a depth element b items → is_index (length items) z ≡ false →
      GivesNone (helper_call p n index.home (Throws Index) (number z ∷ []) s) → code_call (below p (suc n)) g (Some (helper_code CheckIndex)) (object a ∷ number z ∷ []) s ≡ helper_call p n index.home (Throws Index) (number z ∷ []) s

-- what `$get` and `$set` use: the check of an index, and what that throws by
pub record UsesCheck (p : Program) (g : Name) (s : State) : Type 0 where
  pub check : UsesHelper p g CheckIndex s
  pub index : UsesThrower p check.home (Throws Index) s

-- `$get` costs two units, and gives the item at an index of the array; on any other it comes, at two units more, to what `$ioe` comes to on that; within one it is going
pub record GetsTell : Type 0 where
  pub inside : (p : Program) (n : ℕ) (g : Name) (links : List ClassLink) (s : State) (a depth : ℕ) (element : Value) (b : ℕ) (items : List Value) (z : ℤ) → UsesCheck p g s → IsArrayObject links s a depth element b items → is_index (length items) z ≡ true →
      code_call (below p (suc (suc n))) g (Some (helper_code Get)) (object a ∷ number z ∷ []) s ≡ done (gives (item_at items z) s)
  pub outside : (p : Program) (n : ℕ) (g : Name) (links : List ClassLink) (s : State) (a depth : ℕ) (element : Value) (b : ℕ) (items : List Value) (z : ℤ) (uses : UsesCheck p g s) → IsArrayObject links s a depth element b items → is_index (length items) z ≡ false →
      GivesNone (helper_call p n uses.index.home (Throws Index) (number z ∷ []) s) → code_call (below p (suc (suc n))) g (Some (helper_code Get)) (object a ∷ number z ∷ []) s ≡ helper_call p n uses.index.home (Throws Index) (number z ∷ []) s
  pub within_1 : (p : Program) (g : Name) (s : State) (x i : Value) → UsesCheck p g s → code_call (below p 1) g (Some (helper_code Get)) (x ∷ i ∷ []) s ≡ going

-- and `$set` sets the item
pub record SetsTell : Type 0 where
  pub inside : (p : Program) (n : ℕ) (g : Name) (links : List ClassLink) (s : State) (a depth : ℕ) (element : Value) (b : ℕ) (items : List Value) (k : ℕ) (v : Value) → UsesCheck p g s → IsArrayObject links s a depth element b items → nat_lt k (length items) ≡ true → nat_lt k (2 ^ 32 - 1) ≡ true →
      code_call (below p (suc (suc n))) g (Some (helper_code Set)) (object a ∷ number (pos k) ∷ v ∷ []) s ≡ done (gives undefined (with_item_set b items k v s))
  pub outside : (p : Program) (n : ℕ) (g : Name) (links : List ClassLink) (s : State) (a depth : ℕ) (element : Value) (b : ℕ) (items : List Value) (z : ℤ) (v : Value) (uses : UsesCheck p g s) → IsArrayObject links s a depth element b items → is_index (length items) z ≡ false →
      GivesNone (helper_call p n uses.index.home (Throws Index) (number z ∷ []) s) → code_call (below p (suc (suc n))) g (Some (helper_code Set)) (object a ∷ number z ∷ v ∷ []) s ≡ helper_call p n uses.index.home (Throws Index) (number z ∷ []) s
  pub within_1 : (p : Program) (g : Name) (s : State) (x i v : Value) → UsesCheck p g s → code_call (below p 1) g (Some (helper_code Set)) (x ∷ i ∷ v ∷ []) s ≡ going

-- `$put` uses the test of an element too, and what it throws by
pub record UsesFits (p : Program) (g : Name) (s : State) : Type 0 where
  pub checks : UsesCheck p g s
  pub fits : UsesHelper p g Fits s
  pub store : UsesThrower p g (Throws Store) s

-- `$put` costs two units. It checks the index, then whether `$fits` tells that a value other than null fits, for the depth and the element type of the array; then it sets the item, or comes, at one unit more, to what `$ase` comes to
pub record PutsTell : Type 0 where
  pub of_null : (p : Program) (n : ℕ) (g : Name) (links : List ClassLink) (s : State) (a depth : ℕ) (element : Value) (b : ℕ) (items : List Value) (k : ℕ) → UsesFits p g s → IsArrayObject links s a depth element b items → nat_lt k (length items) ≡ true → nat_lt k (2 ^ 32 - 1) ≡ true →
      code_call (below p (suc (suc n))) g (Some (helper_code Put)) (object a ∷ number (pos k) ∷ null ∷ []) s ≡ done (gives undefined (with_item_set b items k null s))
  pub of_element : (p : Program) (n : ℕ) (g : Name) (links : List ClassLink) (s : State) (a depth : ℕ) (element : Value) (b : ℕ) (items : List Value) (k : ℕ) (v : Value) (uses : UsesFits p g s) → IsArrayObject links s a depth element b items → nat_lt k (length items) ≡ true → nat_lt k (2 ^ 32 - 1) ≡ true → v ≢ null →
      helper_call p (suc n) uses.fits.home Fits (v ∷ number (pos depth) ∷ element ∷ []) s ≡ done (gives (boolean true) s) →
      code_call (below p (suc (suc n))) g (Some (helper_code Put)) (object a ∷ number (pos k) ∷ v ∷ []) s ≡ done (gives undefined (with_item_set b items k v s))
  pub of_other : (p : Program) (n : ℕ) (g : Name) (links : List ClassLink) (s : State) (a depth : ℕ) (element : Value) (b : ℕ) (items : List Value) (z : ℤ) (v : Value) (uses : UsesFits p g s) → IsArrayObject links s a depth element b items → is_index (length items) z ≡ true → v ≢ null →
      helper_call p (suc n) uses.fits.home Fits (v ∷ number (pos depth) ∷ element ∷ []) s ≡ done (gives (boolean false) s) → GivesNone (helper_call p (suc n) uses.store.home (Throws Store) [] s) →
      code_call (below p (suc (suc n))) g (Some (helper_code Put)) (object a ∷ number z ∷ v ∷ []) s ≡ helper_call p (suc n) uses.store.home (Throws Store) [] s
  pub outside : (p : Program) (n : ℕ) (g : Name) (links : List ClassLink) (s : State) (a depth : ℕ) (element : Value) (b : ℕ) (items : List Value) (z : ℤ) (v : Value) (uses : UsesFits p g s) → IsArrayObject links s a depth element b items → is_index (length items) z ≡ false →
      GivesNone (helper_call p n uses.checks.index.home (Throws Index) (number z ∷ []) s) → code_call (below p (suc (suc n))) g (Some (helper_code Put)) (object a ∷ number z ∷ v ∷ []) s ≡ helper_call p n uses.checks.index.home (Throws Index) (number z ∷ []) s
  pub within_1 : (p : Program) (g : Name) (s : State) (x i v : Value) → UsesFits p g s → code_call (below p 1) g (Some (helper_code Put)) (x ∷ i ∷ v ∷ []) s ≡ going
  pub fits_going : (p : Program) (n : ℕ) (g : Name) (links : List ClassLink) (s : State) (a depth : ℕ) (element : Value) (b : ℕ) (items : List Value) (z : ℤ) (v : Value) (uses : UsesFits p g s) → IsArrayObject links s a depth element b items → is_index (length items) z ≡ true → v ≢ null →
      helper_call p (suc n) uses.fits.home Fits (v ∷ number (pos depth) ∷ element ∷ []) s ≡ going → code_call (below p (suc (suc n))) g (Some (helper_code Put)) (object a ∷ number z ∷ v ∷ []) s ≡ going

-- an array object with an item set is one still
abbrev pub SetItemsStay : Type 0
SetItemsStay = (links : List ClassLink) (s : State) (a depth : ℕ) (element : Value) (b : ℕ) (items : List Value) (k : ℕ) (v : Value) → IsArrayObject links s a depth element b items → IsArrayObject links (with_item_set b items k v s) a depth element b (set items k v)

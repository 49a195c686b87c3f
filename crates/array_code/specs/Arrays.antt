-- Objects of arrays: their class, and the helper that makes them.
use Rattle.std.specs.Prelude.{◌≡◌, ℕ, suc, ◌^◌, Bool, true, List, [], ◌∷◌, pos, negsuc, replicate, slice_get, nat_lt, Option, Some, codes}
use Rattle.js_tree.specs.Terms.{Name, Member}
use Rattle.outcomes.specs.Outcome.{done, going}
use Rattle.js_mean.specs.Classes.{members_of}
use Rattle.js_mean.specs.Files.{owner}
use Rattle.js_mean.specs.Objects.{with_property, allocated, next_address, with_stored}
use Rattle.js_mean.specs.States.{Value, number, object, class, ClassLink, plain, array, holds, State, gives, Program}
use Rattle.js_mean.specs.Meaning.{below, top_cell, code_call, construct}
use Rattle.class_casts.specs.FailureVariants.{Size}
use Rattle.class_casts.specs.Helpers.{helper_item, helper_name}
use Rattle.class_casts.specs.HelperVariants.{ArrayClass, MakeArray, Throws}
use Rattle.array_code.specs.Codes.{members_of_item, helper_code, helper_call, UsesThrower, GivesNone}

-- an object of the class of arrays: its depth, the type of its elements, and the array of its items, which stands at an address of its own
pub record IsArrayObject (links : List ClassLink) (s : State) (a depth : ℕ) (element : Value) (b : ℕ) (items : List Value) : Type 0 where
  pub own : Name → Option Value
  pub stored : slice_get s.heap a ≡ Some (plain links own)
  pub depth_is : own (codes "n") ≡ Some (number (pos depth))
  pub element_is : own (codes "e") ≡ Some element
  pub items_at : own (codes "a") ≡ Some (object b)
  pub items_are : slice_get s.heap b ≡ Some (array items)

abbrev pub array_members : List Member
array_members = members_of_item (helper_item (λ k. []) ArrayClass)

abbrev pub array_properties : Value → Value → Value → (Name → Option Value) → Name → Option Value
array_properties depth element items own = with_property (codes "a") items (with_property (codes "e") element (with_property (codes "n") depth own))

-- `new $A(n, e, a)` costs one unit more than `super()`, and gives the object that this makes with three properties more; with fewer units it is going
pub record ArrayClassMakes : Type 0 where
  pub made : (p : Program) (n : ℕ) (l top : ClassLink) (above target : List ClassLink) (depth element items : Value) (own : Name → Option Value) (s : State) → members_of p l ≡ Some array_members →
      construct p (below p n) (top ∷ above) target [] s ≡ done (gives (object (next_address s)) (allocated target own s)) →
      construct p (below p (suc n)) (l ∷ top ∷ above) target (depth ∷ element ∷ items ∷ []) s ≡ done (gives (object (next_address s)) (allocated target (array_properties depth element items own) s))
  pub without : (p : Program) (l : ClassLink) (above target : List ClassLink) (vs : List Value) (s : State) → members_of p l ≡ Some array_members → construct p (below p 0) (l ∷ above) target vs s ≡ going
  pub super_going : (p : Program) (n : ℕ) (l top : ClassLink) (above target : List ClassLink) (vs : List Value) (s : State) → members_of p l ≡ Some array_members → construct p (below p n) (top ∷ above) target [] s ≡ going → construct p (below p (suc n)) (l ∷ top ∷ above) target vs s ≡ going

-- in this file the class of arrays is under its name
pub record ArraysStand (p : Program) (g : Name) (links : List ClassLink) (s : State) : Type 0 where
  pub const : Bool
  pub cell_is : top_cell (owner p g (helper_name ArrayClass)) (helper_name ArrayClass) s ≡ holds const (class links)

-- `$mk` costs one unit. It makes an array with as many items as its length says, each filled with the last value, and then the object; on a negative length it comes to what `$nse` comes to on that
pub record MakingTells : Type 0 where
  pub of_length : (p : Program) (n : ℕ) (g : Name) (links : List ClassLink) (s : State) (k : ℕ) (depth element filling : Value) → ArraysStand p g links s → nat_lt k (2 ^ 32) ≡ true →
      code_call (below p (suc n)) g (Some (helper_code MakeArray)) (depth ∷ element ∷ number (pos k) ∷ filling ∷ []) s ≡ construct p (below p n) links links (depth ∷ element ∷ object (next_address s) ∷ []) (with_stored (array (replicate k filling)) s)
  pub of_negative : (p : Program) (n : ℕ) (g : Name) (s : State) (k : ℕ) (depth element filling : Value) (size : UsesThrower p g (Throws Size) s) → GivesNone (helper_call p n size.home (Throws Size) (number (negsuc k) ∷ []) s) →
      code_call (below p (suc n)) g (Some (helper_code MakeArray)) (depth ∷ element ∷ number (negsuc k) ∷ filling ∷ []) s ≡ helper_call p n size.home (Throws Size) (number (negsuc k) ∷ []) s

-- so where an object of the class above costs n units, an array costs two more
abbrev pub ArraysAreMade : Type 0
ArraysAreMade = (p : Program) (n : ℕ) (g : Name) (l top : ClassLink) (above : List ClassLink) (s : State) (k : ℕ) (depth element filling : Value) (own : Name → Option Value) → ArraysStand p g (l ∷ top ∷ above) s → members_of p l ≡ Some array_members → nat_lt k (2 ^ 32) ≡ true →
    construct p (below p n) (top ∷ above) (l ∷ top ∷ above) [] (with_stored (array (replicate k filling)) s) ≡ done (gives (object (next_address (with_stored (array (replicate k filling)) s))) (allocated (l ∷ top ∷ above) own (with_stored (array (replicate k filling)) s))) →
    code_call (below p (suc (suc n))) g (Some (helper_code MakeArray)) (depth ∷ element ∷ number (pos k) ∷ filling ∷ []) s ≡ done (gives (object (next_address (with_stored (array (replicate k filling)) s))) (allocated (l ∷ top ∷ above) (array_properties depth element (object (next_address s)) own) (with_stored (array (replicate k filling)) s)))

-- and what is made is an array object, whose items are all the filling
abbrev pub MadeAreArrays : Type 0
MadeAreArrays = (links : List ClassLink) (s : State) (k depth : ℕ) (element filling : Value) (own : Name → Option Value) →
    IsArrayObject links (allocated links (array_properties (number (pos depth)) element (object (next_address s)) own) (with_stored (array (replicate k filling)) s)) (next_address (with_stored (array (replicate k filling)) s)) depth element (next_address s) (replicate k filling)

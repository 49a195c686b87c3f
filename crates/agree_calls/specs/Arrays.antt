-- What the helpers of arrays need where code can use them: each stands in its file with its function, and so does all that it uses.
use Rattle.std.specs.Prelude.{◌≡◌, true, [], ◌∷◌, Contains, Some, codes}
pub use Rattle.array_code.specs.Arrays.{array_members}
use Rattle.array_code.specs.FailureVariants.{Cast, Index, Size, Store}
use Rattle.array_code.specs.Helpers.{helper_name}
use Rattle.array_code.specs.HelperVariants.{ArrayClass, CastToArray, CheckIndex, ClassOf, ConstantsOf, Covers, Fits, MakeArray, Put, TestOf, TestOfArray, Throws}
use Rattle.array_code.specs.Kind.{Kind}
use Rattle.array_code.specs.KindVariants.{Byte, Short}
use Rattle.array_code.specs.Words.{object_class, worded_kinds}
use Rattle.dispatch_laws.specs.Dispatch.{chain_of}
use Rattle.js_mean.specs.Classes.{members_of}
use Rattle.js_mean.specs.Files.{owner}
use Rattle.js_tree.specs.Terms.{Name}
use Rattle.agree_bodies.specs.Helper.{Helper}
use Rattle.agree_bodies.specs.Settings.{Place, ArraysSomewhere, MadeSomewhere, a_cast, a_helper, a_test, array_link}
use Rattle.agree_calls.specs.Helpers.{HelperStands, ReachesHelper, ReachesTest, ReachesThrower, helper_code}
use Rattle.agree_calls.specs.Made.{IsMade}
use Rattle.sj_names.specs.declared.references.ArrayRef.{ArrayRef}
use Rattle.sj_trees.specs.declared.types.IrType.TheVariants.{Array}

-- arrays can be made: their class stands in the program, above it the class of all objects alone, of which objects can be made
pub record CanGiveArrays (p : Place) : Type 0 where
  pub members_are : members_of p.program (array_link p) ≡ Some array_members
  pub alone : chain_of p.classes object_class ≡ object_class ∷ []
  pub top : IsMade p object_class
  pub somewhere : ArraysSomewhere p
  pub made : MadeSomewhere p object_class

-- this file reaches the class of arrays, and the code of some file can use it
pub record ReachesArrays (p : Place) (f : Name) : Type 0 where
  pub owned : owner p.program f (helper_name ArrayClass) ≡ Some (p.home (a_helper ArrayClass))
  pub user : Name
  pub usable : (p.has user).helper (helper_name ArrayClass) ≡ true

pub record CanMakeArrays (p : Place) : Type 0 where
  pub stands : HelperStands p MakeArray (helper_code MakeArray)
  pub arrays : ReachesArrays p (p.home (a_helper MakeArray))
  pub throws : ReachesThrower p (p.home (a_helper MakeArray)) (Throws Size) (codes "java.lang.NegativeArraySizeException")

-- a helper that checks an index first
pub record ChecksIndex (p : Place) (h : Helper) : Type 0 where
  pub stands : HelperStands p h (helper_code h)
  pub check : ReachesHelper p (p.home (a_helper h)) CheckIndex
  pub throws : ReachesThrower p (p.home (a_helper CheckIndex)) (Throws Index) (codes "java.lang.ArrayIndexOutOfBoundsException")

-- this file reaches the constants of the class of a kind, and the code of some file can use them
pub record ReachesConstants (p : Place) (f : Name) (k : Kind) : Type 0 where
  pub owned : owner p.program f (helper_name (ConstantsOf k)) ≡ Some (p.home (a_helper (ConstantsOf k)))
  pub user : Name
  pub usable : (p.has user).helper (helper_name (ConstantsOf k)) ≡ true

-- the helper that gives the constants of the class of a value
pub record TellsClasses (p : Place) : Type 0 where
  pub tests : (k : Kind) → Contains worded_kinds k → ReachesTest p (p.home (a_helper ClassOf)) k
  pub constants : (k : Kind) → Contains worded_kinds k → ReachesConstants p (p.home (a_helper ClassOf)) k

-- the helper that tells whether a value may be an item of an array
pub record TellsItems (p : Place) : Type 0 where
  pub arrays : ReachesArrays p (p.home (a_helper Fits))
  pub covers : ReachesHelper p (p.home (a_helper Fits)) Covers
  pub byte : ReachesHelper p (p.home (a_helper Fits)) (TestOf Byte)
  pub short : ReachesHelper p (p.home (a_helper Fits)) (TestOf Short)
  pub class_of : ReachesHelper p (p.home (a_helper Fits)) ClassOf
  pub classes : TellsClasses p

pub record CanPut (p : Place) : Type 0 where
  pub index : ChecksIndex p Put
  pub fits : ReachesHelper p (p.home (a_helper Put)) Fits
  pub items : TellsItems p
  pub throws : ReachesThrower p (p.home (a_helper Put)) (Throws Store) (codes "java.lang.ArrayStoreException")

-- the test of a type of arrays is one helper for all, and so is the cast
pub record CanTestArrays (p : Place) (r : ArrayRef) : Type 0 where
  pub home : p.home (a_test (Array r)) ≡ p.home (a_helper TestOfArray)
  pub stands : HelperStands p TestOfArray (helper_code TestOfArray)
  pub arrays : ReachesArrays p (p.home (a_helper TestOfArray))
  pub covers : ReachesHelper p (p.home (a_helper TestOfArray)) Covers

pub record CanCastArrays (p : Place) (r : ArrayRef) : Type 0 where
  pub home : p.home (a_cast (Array r)) ≡ p.home (a_helper CastToArray)
  pub stands : HelperStands p CastToArray (helper_code CastToArray)
  pub tests : CanTestArrays p r
  pub test : ReachesHelper p (p.home (a_helper CastToArray)) TestOfArray
  pub throws : ReachesThrower p (p.home (a_helper CastToArray)) (Throws Cast) (codes "java.lang.ClassCastException")

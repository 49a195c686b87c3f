-- What the helpers of arrays use, where code can use them.
use Rattle.std.proofs.Common.{◌≡◌, ℕ, true, false, List, [], ◌∷◌, Contains, Option, Some, refl, sym, ap, ◌∙◌, subst}
use Rattle.array_code.specs.Arrays.{ArraysStand}
use Rattle.array_code.specs.ArrayTests.{ArrayTestStands, ArrayCastStands}
use Rattle.array_code.specs.Bridges.{IsTopFunction}
use Rattle.array_code.specs.ClassTestsKinds.{is_told}
use Rattle.array_code.specs.Codes.{UsesHelper, UsesThrower}
use Rattle.array_code.specs.FailureVariants.{Cast, Index, Size, Store}
use Rattle.array_code.specs.Fitting.{ConstantsStand, ClassesStand, classes_none, classes_more, FitsStand}
use Rattle.array_code.specs.Helpers.{helper_name}
use Rattle.array_code.specs.HelperVariants.{ArrayClass, CastToArray, CheckIndex, ClassOf, ConstantsOf, Covers, Fits, MakeArray, Put, TestOf, TestOfArray, Throws}
use Rattle.array_code.specs.Items.{UsesCheck, UsesFits}
use Rattle.array_code.specs.Kind.{Kind}
use Rattle.array_code.specs.KindVariants as kinds
use Rattle.array_code.specs.Tests.{TestStands}
use Rattle.array_code.specs.Words.{worded_kinds}
use Rattle.dispatch_laws.specs.States as ir
use Rattle.dispatch_laws.specs.Tests.{test_name, cast_name}
use Rattle.js_mean.specs.Files.{owner}
use Rattle.js_mean.specs.Meaning as js_meaning
use Rattle.js_mean.specs.States as js
use Rattle.js_tree.specs.Terms.{Name}
use Rattle.agree_bodies.proofs.Lists.{at_front, further_on}
use Rattle.agree_bodies.specs.Helper.{Helper}
use Rattle.agree_bodies.specs.Settings.{Place, SameState, TopHolds, HoldsKindConstants, array_links, a_test, a_cast, a_helper, top_function, top_call}
use Rattle.agree_bodies.specs.Worlds.{World}
use Rattle.sj_names.specs.declared.references.ArrayRef.{ArrayRef}
use Rattle.sj_trees.specs.declared.types.IrType.TheVariants.{Array}
use Rattle.agree_calls.specs.Arrays.{ReachesArrays, ReachesConstants, CanMakeArrays, ChecksIndex, TellsClasses, TellsItems, CanPut, CanTestArrays, CanCastArrays}
use Rattle.agree_calls.specs.Helpers.{ReachesHelper, ReachesTest, ReachesThrower, helper_code}
use Rattle.agree_calls.proofs.Boxed.{boxes}
use Rattle.agree_calls.proofs.Casting.{cast_exception}
use Rattle.agree_calls.proofs.Failing.{index_exception, size_exception, store_exception}
use Rattle.agree_calls.proofs.Testing.{kind_stands}

-- what is under the name of a helper is its function
abbrev pub IsFunction : Place → World → Helper → Type 0
IsFunction p w h = (cell : js.Cell) → TopHolds p w.owned (a_helper h) cell → cell ≡ js.holds false (top_function p (a_helper h))

-- the kinds that are told by words
pub undefined_worded : Contains worded_kinds kinds.Undefined
undefined_worded = at_front kinds.Undefined (kinds.Boolean ∷ kinds.Int ∷ kinds.Long ∷ kinds.Text ∷ [])

pub boolean_worded : Contains worded_kinds kinds.Boolean
boolean_worded = further_on kinds.Undefined (kinds.Boolean ∷ kinds.Int ∷ kinds.Long ∷ kinds.Text ∷ []) kinds.Boolean (at_front kinds.Boolean (kinds.Int ∷ kinds.Long ∷ kinds.Text ∷ []))

behind_two : (k : Kind) → Contains (kinds.Int ∷ kinds.Long ∷ kinds.Text ∷ []) k → Contains worded_kinds k
behind_two k i = further_on kinds.Undefined (kinds.Boolean ∷ kinds.Int ∷ kinds.Long ∷ kinds.Text ∷ []) k (further_on kinds.Boolean (kinds.Int ∷ kinds.Long ∷ kinds.Text ∷ []) k i)

pub int_worded : Contains worded_kinds kinds.Int
int_worded = behind_two kinds.Int (at_front kinds.Int (kinds.Long ∷ kinds.Text ∷ []))

pub long_worded : Contains worded_kinds kinds.Long
long_worded = behind_two kinds.Long (further_on kinds.Int (kinds.Long ∷ kinds.Text ∷ []) kinds.Long (at_front kinds.Long (kinds.Text ∷ [])))

pub text_worded : Contains worded_kinds kinds.Text
text_worded = behind_two kinds.Text (further_on kinds.Int (kinds.Long ∷ kinds.Text ∷ []) kinds.Text (further_on kinds.Long (kinds.Text ∷ []) kinds.Text (at_front kinds.Text [])))

module _ (p : Place) (w : World) (s : ir.State) (u : js.State) (same : SameState p w s u) where
  -- a file that reaches a helper finds its function
  pub top_there : (f : Name) (h : Helper) → IsFunction p w h → owner p.program f (helper_name h) ≡ Some (p.home (a_helper h)) → (user : Name) → (p.has user).helper (helper_name h) ≡ true → IsTopFunction p.program f (helper_name h) (p.home (a_helper h)) u
  top_there f h is owned user usable = record { const = false; cell_is = ap (λ (o : Option Name). js_meaning.top_cell o (helper_name h) u) owned ∙ is (u.tops (p.home (a_helper h)) (helper_name h)) (same.tops user (a_helper h) usable) }

  abbrev pub helper_there : (f : Name) (h : Helper) → IsFunction p w h → ReachesHelper p f h → UsesHelper p.program f h u
  helper_there f h is r = record { home = p.home (a_helper h); top = top_there f h is r.owned r.user r.usable; code_is = r.stands }

  abbrev pub thrower_there : (f : Name) (h : Helper) (e : List ℕ) → IsFunction p w h → ReachesThrower p f h e → UsesThrower p.program f h u
  thrower_there f h e is r = record { home = p.home (a_helper h); top = top_there f h is r.owned r.user r.usable }

  -- one that reaches the class of arrays finds it
  pub arrays_there : (f : Name) → ReachesArrays p f → ArraysStand p.program f (array_links p) u
  arrays_there f r = record { const = false; cell_is = ap (λ (o : Option Name). js_meaning.top_cell o (helper_name ArrayClass) u) r.owned ∙ same.tops r.user (a_helper ArrayClass) r.usable }

  -- a helper that checks an index first
  abbrev pub check_there : (h : Helper) → ChecksIndex p h → UsesCheck p.program (p.home (a_helper h)) u
  check_there h c = record {
    check = helper_there (p.home (a_helper h)) CheckIndex (λ cell e. e) c.check;
    index = thrower_there (p.home (a_helper CheckIndex)) (Throws Index) index_exception (λ cell e. e) c.throws;
  }

  -- the test of a type of arrays, and the cast to it
  pub array_test_there : (r : ArrayRef) → CanTestArrays p r → ArrayTestStands p.program (p.home (a_test (Array r))) (array_links p) u
  array_test_there r can = subst (λ (f : Name). ArrayTestStands p.program f (array_links p) u) (sym can.home) (record {
    arrays = arrays_there (p.home (a_helper TestOfArray)) can.arrays;
    covering = helper_there (p.home (a_helper TestOfArray)) Covers (λ cell e. e) can.covers;
  })

  abbrev pub array_cast_there : (r : ArrayRef) → CanCastArrays p r → ArrayCastStands p.program (p.home (a_cast (Array r))) u
  array_cast_there r can = record {
    test = helper_there (p.home (a_cast (Array r))) TestOfArray (λ cell e. e) (subst (λ (f : Name). ReachesHelper p f TestOfArray) (sym can.home) can.test);
    cast = thrower_there (p.home (a_cast (Array r))) (Throws Cast) cast_exception (λ cell e. e) (subst (λ (f : Name). ReachesThrower p f (Throws Cast) cast_exception) (sym can.home) can.throws);
  }

  -- the constants of the class of a kind
  abbrev pub kind_constants : (f : Name) (k : Kind) → ReachesConstants p f k → HoldsKindConstants w.owned k (u.tops (p.home (a_helper (ConstantsOf k))) (helper_name (ConstantsOf k)))
  kind_constants f k r = same.tops r.user (a_helper (ConstantsOf k)) r.usable

  constants_there : (f : Name) (k : Kind) (r : ReachesConstants p f k) → ConstantsStand p.program f u k (kind_constants f k r).address
  constants_there f k r = record { const = true; cell_is = ap (λ (o : Option Name). js_meaning.top_cell o (helper_name (ConstantsOf k)) u) r.owned ∙ (kind_constants f k r).held }

  kind_test_there : (f : Name) (k : Kind) → is_told k ≡ true → ReachesTest p f k → TestStands p.program f (boxes p) u k
  kind_test_there f k told r = let t = kind_stands p w s u same f k r in record { home = t.home; kind_told = told; test = t.test; test_is = t.test_is; boxes_stand = t.boxes_stand }

  module _ (can : TellsClasses p) where
    abbrev classes_home : Name
    classes_home = p.home (a_helper ClassOf)

    -- the constants of the class of a kind that is told by its word
    abbrev pub word_constants : (k : Kind) → Contains worded_kinds k → HoldsKindConstants w.owned k (u.tops (p.home (a_helper (ConstantsOf k))) (helper_name (ConstantsOf k)))
    word_constants k i = kind_constants classes_home k (can.constants k i)

    abbrev pub constants_at : Kind → ℕ
    constants_at kinds.Undefined = (word_constants kinds.Undefined undefined_worded).address
    constants_at kinds.Boolean = (word_constants kinds.Boolean boolean_worded).address
    constants_at kinds.Int = (word_constants kinds.Int int_worded).address
    constants_at kinds.Long = (word_constants kinds.Long long_worded).address
    constants_at kinds.Text = (word_constants kinds.Text text_worded).address
    constants_at _ = 0

    one_class : (k : Kind) (ks : List Kind) (i : Contains worded_kinds k) → is_told k ≡ true → constants_at k ≡ (word_constants k i).address → ClassesStand p.program classes_home (boxes p) u constants_at ks → ClassesStand p.program classes_home (boxes p) u constants_at (k ∷ ks)
    one_class k ks i told at rest = classes_more k ks (kind_test_there classes_home k told (can.tests k i)) (subst (ConstantsStand p.program classes_home u k) (sym at) (constants_there classes_home k (can.constants k i))) rest

    pub classes_there : ClassesStand p.program (p.home (a_helper ClassOf)) (boxes p) u constants_at worded_kinds
    classes_there = one_class kinds.Undefined (kinds.Boolean ∷ kinds.Int ∷ kinds.Long ∷ kinds.Text ∷ []) undefined_worded refl refl (one_class kinds.Boolean (kinds.Int ∷ kinds.Long ∷ kinds.Text ∷ []) boolean_worded refl refl (one_class kinds.Int (kinds.Long ∷ kinds.Text ∷ []) int_worded refl refl (one_class kinds.Long (kinds.Text ∷ []) long_worded refl refl (one_class kinds.Text [] text_worded refl refl classes_none))))

  -- the test of an item
  abbrev pub fits_there : TellsItems p → FitsStand p.program (p.home (a_helper Fits)) (array_links p) u
  fits_there can = record {
    arrays = arrays_there (p.home (a_helper Fits)) can.arrays;
    covering = helper_there (p.home (a_helper Fits)) Covers (λ cell e. e) can.covers;
    byte = helper_there (p.home (a_helper Fits)) (TestOf kinds.Byte) (λ cell e. e) can.byte;
    short = helper_there (p.home (a_helper Fits)) (TestOf kinds.Short) (λ cell e. e) can.short;
    class_of = helper_there (p.home (a_helper Fits)) ClassOf (λ cell e. e) can.class_of;
  }

  abbrev pub put_there : CanPut p → UsesFits p.program (p.home (a_helper Put)) u
  put_there can = record {
    checks = check_there Put can.index;
    fits = helper_there (p.home (a_helper Put)) Fits (λ cell e. e) can.fits;
    store = thrower_there (p.home (a_helper Put)) (Throws Store) store_exception (λ cell e. e) can.throws;
  }

module _ (p : Place) where
  -- what reads and sets items uses
  pub checks_there : (h : Helper) → ChecksIndex p h → (w : World) (s : ir.State) (u : js.State) → SameState p w s u → (c : UsesCheck p.program (p.home (a_helper h)) u) × (c.index.home ≡ p.home (a_helper (Throws Index)))
  checks_there h can w s u same = (check_there p w s u same h can, refl)

  -- what makes arrays of a length uses
  pub maker_arrays_there : CanMakeArrays p → (w : World) (s : ir.State) (u : js.State) → SameState p w s u → ArraysStand p.program (p.home (a_helper MakeArray)) (array_links p) u
  maker_arrays_there can w s u same = arrays_there p w s u same (p.home (a_helper MakeArray)) can.arrays

  pub maker_throws_there : CanMakeArrays p → (w : World) (s : ir.State) (u : js.State) → SameState p w s u → (c : UsesThrower p.program (p.home (a_helper MakeArray)) (Throws Size) u) × (c.home ≡ p.home (a_helper (Throws Size)))
  maker_throws_there can w s u same = (thrower_there p w s u same (p.home (a_helper MakeArray)) (Throws Size) size_exception (λ cell e. e) can.throws, refl)

  -- the code of the test and of the cast
  pub array_test_code : (r : ArrayRef) → CanTestArrays p r → (u : js.State) (vs : List js.Value) (low : js_meaning.Low) → top_call p low (a_test (Array r)) vs u ≡ js_meaning.code_call low (p.home (a_test (Array r))) (Some (helper_code TestOfArray)) vs u
  array_test_code r can u vs low = ap (λ (o : Option js_meaning.Code). js_meaning.code_call low (p.home (a_test (Array r))) o vs u) (subst (λ (f : Name). js_meaning.code_of p.program f (test_name (Array r)) ≡ Some (helper_code TestOfArray)) (sym can.home) can.stands)

  pub array_cast_code : (r : ArrayRef) → CanCastArrays p r → (u : js.State) (vs : List js.Value) (low : js_meaning.Low) → top_call p low (a_cast (Array r)) vs u ≡ js_meaning.code_call low (p.home (a_cast (Array r))) (Some (helper_code CastToArray)) vs u
  array_cast_code r can u vs low = ap (λ (o : Option js_meaning.Code). js_meaning.code_call low (p.home (a_cast (Array r))) o vs u) (subst (λ (f : Name). js_meaning.code_of p.program f (cast_name (Array r)) ≡ Some (helper_code CastToArray)) (sym can.home) can.stands)

  -- where the cast calls
  pub cast_test_home : (r : ArrayRef) (can : CanCastArrays p r) (w : World) (s : ir.State) (u : js.State) (same : SameState p w s u) → (array_cast_there p w s u same r can).test.home ≡ p.home (a_test (Array r))
  cast_test_home r can w s u same = sym can.tests.home

  pub cast_throws_home : (r : ArrayRef) (can : CanCastArrays p r) (w : World) (s : ir.State) (u : js.State) (same : SameState p w s u) → (array_cast_there p w s u same r can).cast.home ≡ p.home (a_helper (Throws Cast))
  cast_throws_home r can w s u same = refl

-- The test of an array type and the cast to it.
use Rattle.std.proofs.Common.{◌≡◌, ◌≢◌, ℕ, suc, Bool, true, false, List, [], ◌∷◌, pos, Option, Some, refl, sym, ap, ◌∙◌, cond, true≢false}
use Rattle.std.specs.Prelude.{codes}
use Rattle.js_tree.specs.Terms.{Name, Expression, binary_of, conditional_of, name_use, no_statements}
use Rattle.js_tree.specs.Views.{expressions_of}
use Rattle.js_tree.specs.declared.operators.BinaryOperator.TheVariants.{InstanceOf}
use Rattle.outcomes.specs.Outcome.{Out, done, going, then_do}
use Rattle.js_mean.specs.States.{Value, null, boolean, number, text, object, ClassLink, Scope, State, ExpressionEnd, gives, with_value, Program}
use Rattle.js_mean.specs.Meaning.{Low, below, code_call, chosen, evaluate, function_scope, one_of}
use Rattle.class_casts.specs.ClassTestsKinds.{is_box}
use Rattle.class_casts.specs.FailureVariants.{Cast}
use Rattle.class_casts.specs.Helpers.{at, calls, helper_name, var}
use Rattle.class_casts.specs.HelperVariants.{ArrayClass, CastToArray, Covers, TestOfArray, Throws}
use Rattle.class_casts.specs.Words.{both, either, is_null, x}
use Rattle.class_casts.proofs.Bridge.{return_hands_on}
use Rattle.class_casts.proofs.Kinded.{differs_from_null, choice_comes}
use Rattle.array_code.specs.Arrays.{IsArrayObject}
use Rattle.array_code.specs.ArrayTests.{ArrayTestStands, ArrayTestsTell, ArrayCastStands, ArrayCastsTell}
use Rattle.array_code.specs.Codes.{helper_code, helper_call}
use Rattle.array_code.proofs.Covered.{covers_tells}
use Rattle.array_code.proofs.Fitted.{is_array, cover_called}
use Rattle.array_code.proofs.Stepping.{both_come, call_comes, instance_comes}

-- `$isA`
abbrev is_an_array : Expression
is_an_array = binary_of x InstanceOf (name_use (helper_name ArrayClass))

abbrev is_covered : Expression
is_covered = calls Covers (at x (codes "n") ∷ at x (codes "e") ∷ var (codes "n") ∷ var (codes "e") ∷ [])

module _ (p : Program) (i : ℕ) (g : Name) (links : List ClassLink) (s : State) (v m d : Value) (stands : ArrayTestStands p g links s) where
  abbrev low : Low
  low = below p i

  abbrev sc : Scope
  sc = function_scope g (helper_code TestOfArray) (v ∷ m ∷ d ∷ [])

  tested : (b : Bool) (o : Out ExpressionEnd) → is_box s links v ≡ b → (b ≡ true → evaluate p low is_covered sc s ≡ o) → code_call (below p (suc i)) g (Some (helper_code TestOfArray)) (v ∷ m ∷ d ∷ []) s ≡ cond b o (done (gives (boolean false) s))
  tested b o is_b k =
      return_hands_on p low (both is_an_array is_covered) no_statements sc s
      ∙ both_come p low sc s is_an_array is_covered b o (instance_comes p low sc s (codes "x") v links refl refl stands.arrays ∙ ap (λ (t : Bool). done (gives (boolean t) s)) is_b) k

module _ (p : Program) (i : ℕ) (g : Name) (l : ClassLink) (above : List ClassLink) (s : State) (a n : ℕ) (e : Value) (b : ℕ) (items : List Value) (m d : Value) (stands : ArrayTestStands p g (l ∷ above) s) (is : IsArrayObject (l ∷ above) s a n e b items) where
  asks_cover : code_call (below p (suc i)) g (Some (helper_code TestOfArray)) (object a ∷ m ∷ d ∷ []) s ≡ code_call (below p i) stands.covering.home (Some (helper_code Covers)) (number (pos n) ∷ e ∷ m ∷ d ∷ []) s
  asks_cover = tested p i g (l ∷ above) s (object a) m d stands true (code_call (below p i) stands.covering.home (Some (helper_code Covers)) (number (pos n) ∷ e ∷ m ∷ d ∷ []) s) (is_array l above s a n e b items is)
      (λ t. cover_called p (below p i) (function_scope g (helper_code TestOfArray) (object a ∷ m ∷ d ∷ [])) (l ∷ above) s a n e b items is (codes "x") (var (codes "n")) (var (codes "e")) m d refl refl refl refl stands.covering)

pub array_tests_tell : ArrayTestsTell
array_tests_tell = record {
  of_other = λ p i g links s v m d stands no. tested p i g links s v m d stands false going no (λ t. absurd (true≢false (sym t)));
  of_array = λ p i g l above s a n e b items m d stands is e_is d_is. asks_cover p (suc i) g l above s a n e b items (number (pos m)) d stands is ∙ covers_tells p i stands.covering.home s n m e d e_is d_is;
  within_1 = λ p g l above s a n e b items m d stands is. asks_cover p 0 g l above s a n e b items m d stands is;
}

-- `$asA`
abbrev test_asked : Expression
test_asked = calls TestOfArray (x ∷ var (codes "n") ∷ var (codes "e") ∷ [])

abbrev null_or_array : Expression
null_or_array = either (is_null x) test_asked

abbrev refused : Expression
refused = calls (Throws Cast) (var (codes "t") ∷ [])

abbrev cast : Expression
cast = conditional_of null_or_array x refused

module _ (p : Program) (i : ℕ) (g : Name) (s : State) (v m d t : Value) (stands : ArrayCastStands p g s) (other : v ≢ null) where
  abbrev bound : Low
  bound = below p i

  abbrev scope : Scope
  scope = function_scope g (helper_code CastToArray) (v ∷ m ∷ d ∷ t ∷ [])

  test_called : evaluate p bound null_or_array scope s ≡ helper_call p i stands.test.home TestOfArray (v ∷ m ∷ d ∷ []) s
  test_called =
      ap (λ (b : Bool). one_of (evaluate p bound test_asked) (boolean b) scope s) (differs_from_null v other)
      ∙ call_comes p bound scope s (helper_name TestOfArray) stands.test.home (expressions_of (x ∷ var (codes "n") ∷ var (codes "e") ∷ [])) (v ∷ m ∷ d ∷ []) refl stands.test.top (λ act. refl)

  decided : (b : Bool) → helper_call p i stands.test.home TestOfArray (v ∷ m ∷ d ∷ []) s ≡ done (gives (boolean b) s) → code_call (below p (suc i)) g (Some (helper_code CastToArray)) (v ∷ m ∷ d ∷ t ∷ []) s ≡ cond b (done (gives v s)) (helper_call p i stands.cast.home (Throws Cast) (t ∷ []) s)
  decided b h =
      return_hands_on p bound cast no_statements scope s
      ∙ choice_comes p bound null_or_array x refused scope s b (test_called ∙ h)
      ∙ ap (λ (o : Out ExpressionEnd). cond b (done (gives v s)) o) (call_comes p bound scope s (helper_name (Throws Cast)) stands.cast.home (expressions_of (var (codes "t") ∷ [])) (t ∷ []) refl stands.cast.top (λ act. refl))

  goes : helper_call p i stands.test.home TestOfArray (v ∷ m ∷ d ∷ []) s ≡ going → code_call (below p (suc i)) g (Some (helper_code CastToArray)) (v ∷ m ∷ d ∷ t ∷ []) s ≡ going
  goes h =
      return_hands_on p bound cast no_statements scope s
      ∙ ap (λ (o : Out ExpressionEnd). then_do o (with_value (λ w. chosen (evaluate p bound x) (evaluate p bound refused) (w ∷ []) scope))) (test_called ∙ h)

pub array_casts_tell : ArrayCastsTell
array_casts_tell = record {
  of_null = λ p i g s m d t. refl;
  of_other = λ p i g s v m d us b stands other h. decided p i g s v m d (text us) stands other b h;
  test_going = λ p i g s v m d t stands other h. goes p i g s v m d t stands other h;
}

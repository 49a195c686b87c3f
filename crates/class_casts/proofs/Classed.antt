-- The cast of a class.
use Rattle.std.proofs.Common.{◌≡◌, ◌≢◌, ℕ, suc, Bool, List, [], ◌∷◌, Option, Some, refl, ap, ◌∙◌, cond}
use Rattle.js_tree.specs.Terms.{Name, no_statements, text_literal}
use Rattle.outcomes.specs.Outcome.{Out, done, going, then_do}
use Rattle.js_mean.specs.States.{Value, null, boolean, ClassLink, absent, Scope, State, ExpressionEnd, gives, with_value, Program}
use Rattle.js_mean.specs.Meaning.{Low, Code, below, code_of, code_call, function_scope, evaluate, chosen, one_of}
use Rattle.class_tests.proofs.Bridge.{return_hands_on}
use Rattle.class_tests.specs.Kind.{Kind}
use Rattle.class_tests.specs.KindVariants.{Undefined, Boolean, Char, Byte, Short, Int, Long, Text}
use Rattle.class_tests.specs.Words.{is_name, call1, units_of, x}
use Rattle.class_tests.specs.Pieces.{kind_test, is_instance, null_or_instance, cast_value}
use Rattle.class_tests.specs.Kinds.{test_code}
use Rattle.class_casts.specs.Kinds.{passes, throwing_name, failed, KindTestStands}
use Rattle.class_casts.specs.Classes.{class_cast_code, class_test_name, ClassCastStands, ClassCastsTell, hijacked_test_code, HijackedCastsTell}
use Rattle.class_casts.proofs.Kinded.{differs_from_null, choice_comes, call_on_x, throw_comes, test_passes}

module _ (p : Program) (n : ℕ) (g : Name) (s : State) (c : Name) (v : Value) (st : ClassCastStands p g s c) (other : v ≢ null) where
  abbrev low : Low
  low = below p n

  abbrev sc : Scope
  sc = function_scope g (class_cast_code c) (v ∷ [])

  -- on a value other than null the test of the class decides
  test_comes : evaluate p low (null_or_instance c) sc s ≡ code_call low st.test_home (code_of p st.test_home (class_test_name c)) (v ∷ []) s
  test_comes =
      ap (λ (b : Bool). one_of (evaluate p low (is_instance c)) (boolean b) sc s) (differs_from_null v other)
      ∙ call_on_x p low (class_test_name c) st.test_home v sc s refl refl st.test

  decided : (b : Bool) → code_call low st.test_home (code_of p st.test_home (class_test_name c)) (v ∷ []) s ≡ done (gives (boolean b) s) → code_call (below p (suc n)) g (Some (class_cast_code c)) (v ∷ []) s ≡ cond b (done (gives v s)) (failed p n st.throwing_home (units_of c) s)
  decided b h =
      return_hands_on p low (cast_value c) no_statements sc s
      ∙ choice_comes p low (null_or_instance c) x (call1 throwing_name (text_literal (units_of c))) sc s b (test_comes ∙ h)
      ∙ ap (λ (o : Out ExpressionEnd). cond b (done (gives v s)) o) (throw_comes p low st.throwing_home (units_of c) sc s refl st.throwing)

  pub goes : code_call low st.test_home (code_of p st.test_home (class_test_name c)) (v ∷ []) s ≡ going → code_call (below p (suc n)) g (Some (class_cast_code c)) (v ∷ []) s ≡ going
  goes h =
      return_hands_on p low (cast_value c) no_statements sc s
      ∙ ap (λ (o : Out ExpressionEnd). then_do o (with_value (λ w. chosen (evaluate p low x) (evaluate p low (call1 throwing_name (text_literal (units_of c)))) (w ∷ []) sc))) (test_comes ∙ h)

hijacked_name_free : (g : Name) (k : Kind) (v : Value) (j : Kind) → (function_scope g (hijacked_test_code k) (v ∷ [])).bindings (is_name j) ≡ absent
hijacked_name_free g k v Undefined = refl
hijacked_name_free g k v Boolean = refl
hijacked_name_free g k v Char = refl
hijacked_name_free g k v Byte = refl
hijacked_name_free g k v Short = refl
hijacked_name_free g k v Int = refl
hijacked_name_free g k v Long = refl
hijacked_name_free g k v Text = refl

module _ (p : Program) (n : ℕ) (home : Name) (boxes : List ClassLink) (s : State) (c : Name) (k : Kind) (v : Value) (test_is : code_of p home (class_test_name c) ≡ Some (hijacked_test_code k)) (tested : KindTestStands p home boxes s k) where
  -- the test of a hijacked class calls that of its kind
  pub hijacked_asks : code_call (below p (suc n)) home (code_of p home (class_test_name c)) (v ∷ []) s ≡ code_call (below p n) tested.home (Some (test_code k)) (v ∷ []) s
  hijacked_asks =
      ap (λ (o : Option Code). code_call (below p (suc n)) home o (v ∷ []) s) test_is
      ∙ return_hands_on p (below p n) (kind_test k) no_statements (function_scope home (hijacked_test_code k) (v ∷ [])) s
      ∙ call_on_x p (below p n) (is_name k) tested.home v (function_scope home (hijacked_test_code k) (v ∷ [])) s (hijacked_name_free home k v k) refl tested.test
      ∙ ap (λ (o : Option Code). code_call (below p n) tested.home o (v ∷ []) s) tested.test_is

pub hijacked_casts_tell : HijackedCastsTell
hijacked_casts_tell p n g boxes s c k v st other = decided p (suc (suc n)) g s c v st.cast other (passes s boxes k v) (hijacked_asks p (suc n) st.cast.test_home boxes s c k v st.test_is st.tested ∙ test_passes p n st.tested.home boxes s k v st.tested.boxes_stand)

pub class_casts_tell : ClassCastsTell
class_casts_tell = record {
  of_null = λ p n g s c. refl;
  of_other = λ p n g s c v b st other h. decided p n g s c v st other b h;
}

-- With too few units casts are going.
use Rattle.std.proofs.Common.{◌≡◌, ◌≢◌, Bool, List, [], ◌∷◌, Option, Some, None, refl, ap, ◌∙◌}
use Rattle.std.specs.Prelude.{not}
use Rattle.js_tree.specs.Terms.{Name, Expression, no_statements}
use Rattle.outcomes.specs.Outcome.{Out, going, then_do}
use Rattle.js_mean.specs.States.{Value, null, boolean, ClassLink, absent, Scope, State, ExpressionEnd, with_value, Program}
use Rattle.js_mean.specs.Meaning.{Code, below, code_call, function_scope, evaluate, both_of, one_of}
use Rattle.class_tests.proofs.Bridge.{return_hands_on}
use Rattle.class_tests.specs.Kind.{Kind}
use Rattle.class_tests.specs.KindVariants.{Undefined, Boolean, Char, Byte, Short, Int, Long, Text}
use Rattle.class_tests.specs.Words.{is_name, either}
use Rattle.class_tests.specs.Pieces.{kind_test, joined, any_of, has_marker, instance_test}
use Rattle.class_tests.specs.Tests.{TestStands, TestsStand, tests_more, class_test_code}
use Rattle.class_casts.specs.Classes.{class_cast_code}
use Rattle.class_casts.specs.Worlds.{TestedCastStands, test_units}
use Rattle.class_casts.specs.Shorts.{ShortCastsGo}
use Rattle.class_casts.proofs.Classed.{goes, hijacked_asks}
use Rattle.class_casts.proofs.Kinded.{differs_from_null, call_on_x, asks_test}

test_name_free : (g : Name) (c : Name) (all : List Kind) (v : Value) (j : Kind) → (function_scope g (class_test_code c all) (v ∷ [])).bindings (is_name j) ≡ absent
test_name_free g c all v Undefined = refl
test_name_free g c all v Boolean = refl
test_name_free g c all v Char = refl
test_name_free g c all v Byte = refl
test_name_free g c all v Short = refl
test_name_free g c all v Int = refl
test_name_free g c all v Long = refl
test_name_free g c all v Text = refl

-- within one unit the test of a class that tells a kind is going
module _ (p : Program) (g : Name) (boxes : List ClassLink) (s : State) (c : Name) (k : Kind) (ks : List Kind) (v : Value) where
  abbrev sc : Scope
  sc = function_scope g (class_test_code c (k ∷ ks)) (v ∷ [])

  abbrev Goes : Expression → Type 0
  Goes e = evaluate p (below p 0) e sc s ≡ going

  either_goes : (e f : Expression) → Goes e → Goes (either e f)
  either_goes e f h = ap (λ (o : Out ExpressionEnd). then_do o (with_value (λ w. one_of (evaluate p (below p 0) f) w sc))) h

  joined_goes : (e : Expression) (js : List Kind) → Goes e → Goes (joined e js)
  joined_goes e [] h = h
  joined_goes e (j ∷ js) h = joined_goes (either e (kind_test j)) js (either_goes e (kind_test j) h)

  pub test_goes : TestStands p g boxes s k → v ≢ null → code_call (below p 1) g (Some (class_test_code c (k ∷ ks))) (v ∷ []) s ≡ going
  test_goes st other =
      return_hands_on p (below p 0) (instance_test c (k ∷ ks) None) no_statements sc s
      ∙ ap (λ (b : Bool). both_of (evaluate p (below p 0) (any_of (k ∷ ks) (has_marker c))) (boolean (not b)) sc s) (differs_from_null v other)
      ∙ either_goes (joined (kind_test k) ks) (has_marker c) (joined_goes (kind_test k) ks (call_on_x p (below p 0) (is_name k) st.home v sc s (test_name_free g c (k ∷ ks) v k) refl st.test ∙ ap (λ (o : Option Code). code_call (below p 0) st.home o (v ∷ []) s) st.test_is))

  first_test : TestsStand p g boxes s (k ∷ ks) → TestStands p g boxes s k
  first_test (tests_more _ _ st rest) = st

test_short : (p : Program) (g : Name) (boxes : List ClassLink) (s : State) (c : Name) (kinds : List Kind) (v : Value) (st : TestedCastStands p g boxes s c kinds) → v ≢ null → code_call (below p (test_units kinds)) g (Some (class_cast_code c)) (v ∷ []) s ≡ going
test_short p g boxes s c [] v st other = goes p 0 g s c v st.cast other (ap (λ (o : Option Code). code_call (below p 0) st.cast.test_home o (v ∷ []) s) st.test_is)
test_short p g boxes s c (k ∷ ks) v st other =
    goes p 1 g s c v st.cast other (ap (λ (o : Option Code). code_call (below p 1) st.cast.test_home o (v ∷ []) s) st.test_is
    ∙ test_goes p st.cast.test_home boxes s c k ks v (first_test p st.cast.test_home boxes s c k ks v st.tests) other)

pub short_casts_go : ShortCastsGo
short_casts_go = record {
  kind_without = λ p g k vs s. refl;
  class_without = λ p g c vs s. refl;
  of_kind = λ p g boxes s k v st other. asks_test p 0 g boxes s k v st other;
  test_going = λ p n g s c v st other h. goes p n g s c v st other h;
  class_within_1 = λ p g boxes s c kinds v st other. goes p 0 g s c v st.cast other (ap (λ (o : Option Code). code_call (below p 0) st.cast.test_home o (v ∷ []) s) st.test_is);
  of_class = λ p g boxes s c kinds v st other. test_short p g boxes s c kinds v st other;
  hijacked_within_1 = λ p g boxes s c k v st other. goes p 0 g s c v st.cast other (ap (λ (o : Option Code). code_call (below p 0) st.cast.test_home o (v ∷ []) s) st.test_is);
  of_hijacked = λ p g boxes s c k v st other. goes p 1 g s c v st.cast other (hijacked_asks p 0 st.cast.test_home boxes s c k v st.test_is st.tested);
}

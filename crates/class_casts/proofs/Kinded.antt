-- The casts of kinds.
use Rattle.std.proofs.Common.{◌≡◌, ◌≢◌, ℕ, suc, Bool, true, false, List, [], ◌∷◌, Option, Some, refl, sym, ap, ◌∙◌, cond}
use Rattle.std.specs.Prelude.{codes}
use Rattle.js_tree.specs.Terms.{Name, Expression, expression, no_expressions, no_statements, text_literal, conditional_of}
use Rattle.outcomes.specs.Outcome.{Out, done, then_do}
use Rattle.js_mean.specs.Operators.{is_strictly_equal}
use Rattle.js_mean.specs.States.{Value, undefined, null, boolean, number, big_int, text, object, function, class, method, ClassLink, absent, holds, Scope, State, ExpressionEnd, gives, with_value, Program}
use Rattle.js_mean.specs.Meaning.{Low, Code, below, code_of, code_call, call, function_scope, evaluate, chosen, read_property, value_or_wrong}
use Rattle.class_tests.specs.Bridges.{IsTopFunction}
use Rattle.class_tests.proofs.Bridge.{name_held, call_given, return_hands_on}
use Rattle.class_tests.specs.Kind.{Kind}
use Rattle.class_tests.specs.KindVariants.{Undefined, Boolean, Char, Byte, Short, Int, Long, Text}
use Rattle.class_tests.specs.Helpers.{kind_zero, kind_word, unboxed, cast_failure, unboxed_or_throw, cast_of}
use Rattle.class_tests.specs.Words.{is_name, is_null, call1, x}
use Rattle.class_tests.specs.Kinds.{test_code, BoxesStand}
use Rattle.class_tests.proofs.Telling.{tests_tell}
use Rattle.class_tests.proofs.Smallest.{small_tests_tell}
use Rattle.class_casts.specs.Kinds.{passes, zero_value, unboxed_value, cast_code, throwing_name, failed, CastStands, CastsTell}

pub differs_from_null : (v : Value) → v ≢ null → is_strictly_equal v null ≡ false
differs_from_null undefined other = refl
differs_from_null null other = absurd (other refl)
differs_from_null (boolean b) other = refl
differs_from_null (number z) other = refl
differs_from_null (big_int z) other = refl
differs_from_null (text us) other = refl
differs_from_null (object a) other = refl
differs_from_null (function f y) other = refl
differs_from_null (class ls) other = refl
differs_from_null (method ls y) other = refl

module _ (p : Program) where
  -- one of two, by a condition
  pub choice_comes : (low : Low) (c e f : Expression) (sc : Scope) (s : State) (b : Bool) → evaluate p low c sc s ≡ done (gives (boolean b) s) → evaluate p low (conditional_of c e f) sc s ≡ cond b (evaluate p low e sc s) (evaluate p low f sc s)
  choice_comes low c e f sc s b h = ap (λ (o : Out ExpressionEnd). then_do o (with_value (λ w. chosen (evaluate p low e) (evaluate p low f) (w ∷ []) sc))) h ∙ go b
    where
      go : (b : Bool) → chosen (evaluate p low e) (evaluate p low f) (boolean b ∷ []) sc s ≡ cond b (evaluate p low e sc s) (evaluate p low f sc s)
      go true = refl
      go false = refl

  -- a call on the parameter of a function at the top
  pub call_on_x : (low : Low) (f home : Name) (v : Value) (sc : Scope) (s : State) → sc.bindings f ≡ absent → sc.bindings (codes "x") ≡ holds false v → IsTopFunction p sc.file f home s → evaluate p low (call1 f x) sc s ≡ code_call low home (code_of p home f) (v ∷ []) s
  call_on_x low f home v sc s free held top =
      call_given p low f home top.const (expression x no_expressions) sc s free top.cell_is
      ∙ ap (λ (o : Out ExpressionEnd). then_do o (with_value (λ w. call p low (function home f) (w ∷ []) sc))) (name_held p (codes "x") false v sc s held)

  pub throw_comes : (low : Low) (home : Name) (us : List ℕ) (sc : Scope) (s : State) → sc.bindings throwing_name ≡ absent → IsTopFunction p sc.file throwing_name home s → evaluate p low (call1 throwing_name (text_literal us)) sc s ≡ code_call low home (code_of p home throwing_name) (text us ∷ []) s
  throw_comes low home us sc s free top = call_given p low throwing_name home top.const (expression (text_literal us) no_expressions) sc s free top.cell_is

  pub test_passes : (n : ℕ) (g : Name) (boxes : List ClassLink) (s : State) (k : Kind) (v : Value) → (k ≡ Char → BoxesStand p g boxes s) → code_call (below p (suc n)) g (Some (test_code k)) (v ∷ []) s ≡ done (gives (boolean (passes s boxes k v)) s)
  test_passes n g boxes s Undefined v stand = tests_tell p n g boxes s Undefined v refl stand
  test_passes n g boxes s Boolean v stand = tests_tell p n g boxes s Boolean v refl stand
  test_passes n g boxes s Char v stand = tests_tell p n g boxes s Char v refl stand
  test_passes n g boxes s Byte v stand = small_tests_tell.byte p n g s v
  test_passes n g boxes s Short v stand = small_tests_tell.short p n g s v
  test_passes n g boxes s Int v stand = tests_tell p n g boxes s Int v refl stand
  test_passes n g boxes s Long v stand = tests_tell p n g boxes s Long v refl stand
  test_passes n g boxes s Text v stand = tests_tell p n g boxes s Text v refl stand

  x_comes : (low : Low) (sc : Scope) (s : State) (v u : Value) → sc.bindings (codes "x") ≡ holds false v → Some v ≡ Some u → evaluate p low x sc s ≡ done (gives u s)
  x_comes low sc s v u held e = let same : v ≡ u = cc in name_held p (codes "x") false v sc s held ∙ ap (λ (w : Value). done (gives w s)) same

  unboxed_comes : (low : Low) (sc : Scope) (s : State) (k : Kind) (v u : Value) → sc.bindings (codes "x") ≡ holds false v → unboxed_value p s k v ≡ Some u → evaluate p low (unboxed k) sc s ≡ done (gives u s)
  unboxed_comes low sc s Undefined v u held e = x_comes low sc s v u held e
  unboxed_comes low sc s Boolean v u held e = x_comes low sc s v u held e
  unboxed_comes low sc s Char v u held e =
      ap (λ (o : Out ExpressionEnd). then_do o (with_value (λ w. read_property p (codes "c") (w ∷ []) sc))) (name_held p (codes "x") false v sc s held)
      ∙ ap (λ (o : Option Value). value_or_wrong o sc s) e
  unboxed_comes low sc s Byte v u held e = x_comes low sc s v u held e
  unboxed_comes low sc s Short v u held e = x_comes low sc s v u held e
  unboxed_comes low sc s Int v u held e = x_comes low sc s v u held e
  unboxed_comes low sc s Long v u held e = x_comes low sc s v u held e
  unboxed_comes low sc s Text v u held e = x_comes low sc s v u held e

test_name_free : (g : Name) (k : Kind) (v : Value) (j : Kind) → (function_scope g (cast_code k) (v ∷ [])).bindings (is_name j) ≡ absent
test_name_free g k v Undefined = refl
test_name_free g k v Boolean = refl
test_name_free g k v Char = refl
test_name_free g k v Byte = refl
test_name_free g k v Short = refl
test_name_free g k v Int = refl
test_name_free g k v Long = refl
test_name_free g k v Text = refl

pub null_fails : (s : State) (boxes : List ClassLink) (k : Kind) → passes s boxes k null ≡ false
null_fails s boxes Undefined = refl
null_fails s boxes Boolean = refl
null_fails s boxes Char = refl
null_fails s boxes Byte = refl
null_fails s boxes Short = refl
null_fails s boxes Int = refl
null_fails s boxes Long = refl
null_fails s boxes Text = refl

-- a value that passes a test is not null
pub passes_other : (s : State) (boxes : List ClassLink) (k : Kind) (v : Value) → passes s boxes k v ≡ true → v ≢ null
passes_other s boxes k v h e = let t : true ≡ false = sym h ∙ ap (passes s boxes k) e ∙ null_fails s boxes k in cc

pub null_gives_zero : (p : Program) (n : ℕ) (g : Name) (s : State) (k : Kind) → code_call (below p (suc n)) g (Some (cast_code k)) (null ∷ []) s ≡ done (gives (zero_value k) s)
null_gives_zero p n g s Undefined = refl
null_gives_zero p n g s Boolean = refl
null_gives_zero p n g s Char = refl
null_gives_zero p n g s Byte = refl
null_gives_zero p n g s Short = refl
null_gives_zero p n g s Int = refl
null_gives_zero p n g s Long = refl
null_gives_zero p n g s Text = refl

module _ (p : Program) (n : ℕ) (g : Name) (boxes : List ClassLink) (s : State) (k : Kind) (v : Value) (st : CastStands p g boxes s k) where
  abbrev sc : Scope
  sc = function_scope g (cast_code k) (v ∷ [])

  -- on a value other than null the test is called
  pub asks_test : v ≢ null → code_call (below p (suc n)) g (Some (cast_code k)) (v ∷ []) s ≡ then_do (code_call (below p n) st.tested.home (Some (test_code k)) (v ∷ []) s) (with_value (λ w. chosen (evaluate p (below p n) (unboxed k)) (evaluate p (below p n) (cast_failure k)) (w ∷ []) sc))
  asks_test other =
      return_hands_on p (below p n) (cast_of k) no_statements sc s
      ∙ choice_comes p (below p n) (is_null x) (kind_zero k) (unboxed_or_throw k) sc s false (ap (λ (b : Bool). done (gives (boolean b) s)) (differs_from_null v other))
      ∙ ap (λ (o : Out ExpressionEnd). then_do o (with_value (λ w. chosen (evaluate p (below p n) (unboxed k)) (evaluate p (below p n) (cast_failure k)) (w ∷ []) sc))) (call_on_x p (below p n) (is_name k) st.tested.home v sc s (test_name_free g k v k) refl st.tested.test ∙ ap (λ (o : Option Code). code_call (below p n) st.tested.home o (v ∷ []) s) st.tested.test_is)

module _ (p : Program) (n : ℕ) (g : Name) (boxes : List ClassLink) (s : State) (k : Kind) (v : Value) (st : CastStands p g boxes s k) where
  abbrev low : Low
  low = below p (suc n)

  cast_comes : v ≢ null → (b : Bool) → passes s boxes k v ≡ b → code_call (below p (suc (suc n))) g (Some (cast_code k)) (v ∷ []) s ≡ cond b (evaluate p low (unboxed k) (sc p n g boxes s k v st) s) (evaluate p low (cast_failure k) (sc p n g boxes s k v st) s)
  cast_comes other b e =
      asks_test p (suc n) g boxes s k v st other
      ∙ ap (λ (o : Out ExpressionEnd). then_do o (with_value (λ w. chosen (evaluate p low (unboxed k)) (evaluate p low (cast_failure k)) (w ∷ []) (sc p n g boxes s k v st)))) (test_passes p n st.tested.home boxes s k v st.tested.boxes_stand ∙ ap (λ (z : Bool). done (gives (boolean z) s)) e)
      ∙ go b
    where
      go : (b : Bool) → chosen (evaluate p low (unboxed k)) (evaluate p low (cast_failure k)) (boolean b ∷ []) (sc p n g boxes s k v st) s ≡ cond b (evaluate p low (unboxed k) (sc p n g boxes s k v st) s) (evaluate p low (cast_failure k) (sc p n g boxes s k v st) s)
      go true = refl
      go false = refl

  given : (u : Value) → passes s boxes k v ≡ true → unboxed_value p s k v ≡ Some u → code_call (below p (suc (suc n))) g (Some (cast_code k)) (v ∷ []) s ≡ done (gives u s)
  given u e f = cast_comes (passes_other s boxes k v e) true e ∙ unboxed_comes p low (sc p n g boxes s k v st) s k v u refl f

  refused : v ≢ null → passes s boxes k v ≡ false → code_call (below p (suc (suc n))) g (Some (cast_code k)) (v ∷ []) s ≡ failed p (suc n) st.throwing_home (kind_word k) s
  refused other e = cast_comes other false e ∙ throw_comes p low st.throwing_home (kind_word k) (sc p n g boxes s k v st) s refl st.throwing

pub casts_tell : CastsTell
casts_tell = record {
  of_null = null_gives_zero;
  of_kind = λ p n g boxes s k v u st e f. given p n g boxes s k v st u e f;
  of_other = λ p n g boxes s k v st other e. refused p n g boxes s k v st other e;
}

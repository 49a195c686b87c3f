-- With too few units calls are going.
use Rattle.std.proofs.Common.{◌≡◌, ℕ, suc, true, false, List, [], ◌∷◌, length, Option, Some, refl, ap, ◌∙◌}
use Rattle.std.specs.Prelude.{codes}
use Rattle.js_tree.specs.Names.{is_same_text}
use Rattle.js_tree.specs.Terms.{Name, expression, no_expressions, call_of}
use Rattle.outcomes.specs.Outcome.{Out, going, then_do}
use Rattle.sj_names.specs.declared.method_names.MethodName.{MethodName}
use Rattle.js_mean.specs.Proper.{are_distinct}
use Rattle.js_mean.specs.States.{Value, function, ClassLink, Cell, absent, Scope, State, Program, ExpressionEnd, with_value, in_statement, next_statement}
use Rattle.js_mean.specs.Meaning.{Code, below, bind_declared, function_scope, call, code_call, evaluate, execute_all, in_block, taken, nothing, returned}
use Rattle.class_code.specs.Words.{uses, is_name, parameter, parameters_of, x, call1, only_return, public_function}
use Rattle.class_code.proofs.Bridge.{Hold, parameters_hold, name_held, call_given}
use Rattle.class_code.specs.Kind.{Kind}
use Rattle.class_code.specs.KindVariants.{Undefined, Boolean, Char, Byte, Short, Int, Long, Text}
use Rattle.class_code.specs.Dispatch.{Told, dispatch_body}
use Rattle.class_code.proofs.Parameters.{no_parameter}
use Rattle.class_tests.specs.Kinds.{CaseStands, dispatch_code}
use Rattle.class_tests.specs.Shorts.{ShortCallsGo}
use Rattle.class_tests.proofs.Telling.{apart, at_head, declares_nothing}

test_differs : (k : Kind) → ((i : ℕ) → is_same_text (is_name k) (parameter i) ≡ false) × (is_same_text (is_name k) (codes "x") ≡ false)
test_differs Undefined = (λ i. refl, refl)
test_differs Boolean = (λ i. refl, refl)
test_differs Char = (λ i. refl, refl)
test_differs Byte = (λ i. refl, refl)
test_differs Short = (λ i. refl, refl)
test_differs Int = (λ i. refl, refl)
test_differs Long = (λ i. refl, refl)
test_differs Text = (λ i. refl, refl)

module _ (p : Program) (g : Name) (home : Name → Name) (boxes : List ClassLink) (m : MethodName) (t : Told) (ts : List Told) (v : Value) (vs : List Value) (s : State) (st : CaseStands p g home boxes m s t) (distinct : are_distinct (codes "x" ∷ parameters_of m) ≡ true) (same_length : length (parameters_of m) ≡ length vs) where
  abbrev sc : Scope
  sc = function_scope g (dispatch_code m (t ∷ ts)) (v ∷ vs)

  held : Hold sc.bindings (codes "x" ∷ parameters_of m) (v ∷ vs)
  held = parameters_hold (codes "x" ∷ parameters_of m) (v ∷ vs) (bind_declared (dispatch_body m (t ∷ ts)) (λ y. absent)) distinct (ap suc same_length)

  free : sc.bindings (is_name t.kind) ≡ absent
  free = apart m vs v (is_name t.kind) (bind_declared (dispatch_body m (t ∷ ts)) (λ y. absent)) (test_differs t.kind).1 (no_parameter (is_name t.kind) (length m.params) (test_differs t.kind).0) ∙ ap (λ (k : Name → Cell). k (is_name t.kind)) (declares_nothing m (t ∷ ts) (λ y. absent))

  test_goes : evaluate p (below p 0) (call1 (is_name t.kind) x) sc s ≡ going
  test_goes =
      call_given p (below p 0) (is_name t.kind) st.test_home st.test.const (expression x no_expressions) sc s free st.test.cell_is
      ∙ ap (λ (o : Out ExpressionEnd). then_do o (with_value (λ w. call p (below p 0) (function st.test_home (is_name t.kind)) (w ∷ []) sc))) (name_held p (codes "x") false v sc s (at_head sc.bindings (codes "x") v (parameters_of m) vs held))
      ∙ ap (λ (c : Option Code). code_call (below p 0) st.test_home c (v ∷ []) s) st.test_is

  goes : code_call (below p 1) g (Some (dispatch_code m (t ∷ ts))) (v ∷ vs) s ≡ going
  goes = ap (λ (o : Out ExpressionEnd). then_do (then_do (then_do o (in_statement sc (λ w. taken (in_block (only_return (call_of (public_function t.owner m) (expression x (uses (parameters_of m))))) (execute_all p (below p 0) (only_return (call_of (public_function t.owner m) (expression x (uses (parameters_of m))))))) nothing w sc))) (next_statement (execute_all p (below p 0) (dispatch_body m ts)))) returned) test_goes

pub short_calls_go : ShortCallsGo
short_calls_go = record {
  method = λ p l ls c this vs s. refl;
  function = λ p g c vs s. refl;
  dispatch = λ p g home boxes m t ts v vs s st d e. goes p g home boxes m t ts v vs s st d e;
}

-- The terms that expressions, statements and methods of the core stand for.
use Rattle.std.specs.Prelude.{List, [], ◌∷◌, ℤ, map}
use Rattle.sj_core.specs.Terms.{Variable, named, numbered, receiver, Expression, field_of, static_of, module_of, checked_value, made_of, receiver_call, test_of, cast_of, new_array_of, array_of, length_of, element_of, assign_field, assign_static, assign_element, store_module_of, throw_of, undefined_value, null_value, boolean_value, number_value, long_value, text_value, variable_use, boxed_char, char_text, value_text, choice_of, static_call, unary_of, binary_of, Expressions, no_expressions, expression, Statement, constant_of, define_of, declare_of, assign_to, evaluate_of, return_of, log_of, leave_label, break_nearest, if_of, while_of, loop_of, labeled_of, switch_of, try_of, finally_of, Statements, no_statements, statement, Cases, no_cases, switch_case, Method}
use Rattle.sj_core.specs.declared.expressions.CoreVariable.{CoreVariable}
use Rattle.sj_core.specs.declared.expressions.CoreVariable.TheVariants as Variables
use Rattle.sj_core.specs.declared.expressions.CoreExpression.{CoreExpression, fold-CoreExpression}
use Rattle.sj_core.specs.declared.expressions.CoreExpression.TheOpen.{CoreExpression-F}
use Rattle.sj_core.specs.declared.statements.CoreStatement.{CoreStatement}
use Rattle.sj_core.specs.declared.statements.CoreStatement.TheOpen.{CoreStatement-F, CoreCase-F}
use Rattle.sj_core.specs.declared.statements.CoreStatement.TheFolds.{fold-CoreStatement, fold-CoreCase}
use Rattle.sj_core.specs.declared.statements.CoreCase.{CoreCase}
use Rattle.sj_core.specs.declared.methods.CoreMethod.{CoreMethod}

abbrev pub variable_view : CoreVariable → Variable
variable_view (Variables.Local x) = named x
variable_view (Variables.Numbered n) = numbered n
variable_view Variables.Receiver = receiver

-- expressions in front of others: the form that loops need
abbrev pub expressions_onto : List Expression → Expressions → Expressions
expressions_onto [] us = us
expressions_onto (e ∷ es) us = expression e (expressions_onto es us)

abbrev pub expressions_of : List Expression → Expressions
expressions_of es = expressions_onto es no_expressions

-- one level, with each expression inside already seen as its term
abbrev pub expression_step : CoreExpression-F Expression → Expression
expression_step CoreExpression-F.Undefined = undefined_value
expression_step CoreExpression-F.Null = null_value
expression_step (CoreExpression-F.Boolean b) = boolean_value b
expression_step (CoreExpression-F.Number z) = number_value z
expression_step (CoreExpression-F.Long z) = long_value z
expression_step (CoreExpression-F.Text us) = text_value us
expression_step (CoreExpression-F.Variable x) = variable_use (variable_view x)
expression_step (CoreExpression-F.Boxed e) = boxed_char e.value
expression_step (CoreExpression-F.CharText e) = char_text e.value
expression_step (CoreExpression-F.ValueText e) = value_text e.value
expression_step (CoreExpression-F.Choice c a b) = choice_of c.value a.value b.value
expression_step (CoreExpression-F.StaticCall m es) = static_call m (expressions_of es.items)
expression_step (CoreExpression-F.Field e c f) = field_of e.value c f
expression_step (CoreExpression-F.StaticField c f) = static_of c f
expression_step (CoreExpression-F.Module c) = module_of c
expression_step (CoreExpression-F.Checked e) = checked_value e.value
expression_step (CoreExpression-F.Made m es) = made_of m (expressions_of es.items)
expression_step (CoreExpression-F.ReceiverCall k e es) = receiver_call k e.value (expressions_of es.items)
expression_step (CoreExpression-F.Test t e) = test_of t e.value
expression_step (CoreExpression-F.Cast t e) = cast_of t e.value
expression_step (CoreExpression-F.NewArray r e) = new_array_of r e.value
expression_step (CoreExpression-F.Array r es) = array_of r (expressions_of es.items)
expression_step (CoreExpression-F.Length e) = length_of e.value
expression_step (CoreExpression-F.Element e i) = element_of e.value i.value
expression_step (CoreExpression-F.Unary op e) = unary_of op e.value
expression_step (CoreExpression-F.Binary op a b) = binary_of op a.value b.value

abbrev pub expression_view : CoreExpression → Expression
expression_view = fold-CoreExpression Expression expression_step

abbrev pub expressions_view : List CoreExpression → Expressions
expressions_view es = expressions_of (map expression_view es)

abbrev pub statements_onto : List Statement → Statements → Statements
statements_onto [] us = us
statements_onto (s ∷ ss) us = statement s (statements_onto ss us)

abbrev pub statements_of : List Statement → Statements
statements_of ss = statements_onto ss no_statements

-- a case of a switch: its keys and its statements
abbrev pub Case : Type 0
Case = List ℤ × Statements

abbrev pub cases_onto : List Case → Cases → Cases
cases_onto [] us = us
cases_onto (c ∷ cs) us = switch_case c.0 c.1 (cases_onto cs us)

abbrev pub cases_of : List Case → Cases
cases_of cs = cases_onto cs no_cases

abbrev pub statement_step : CoreStatement-F Statement Case → Statement
statement_step (CoreStatement-F.Constant p x e) = constant_of p (variable_view x) (expression_view e)
statement_step (CoreStatement-F.Define p x e) = define_of p (variable_view x) (expression_view e)
statement_step (CoreStatement-F.Declare p x) = declare_of p (variable_view x)
statement_step (CoreStatement-F.Assign p x e) = assign_to p (variable_view x) (expression_view e)
statement_step (CoreStatement-F.Evaluate p e) = evaluate_of p (expression_view e)
statement_step (CoreStatement-F.Return p e) = return_of p (expression_view e)
statement_step (CoreStatement-F.Log p e) = log_of p (expression_view e)
statement_step (CoreStatement-F.AssignField p e c f g) = assign_field p (expression_view e) c f (expression_view g)
statement_step (CoreStatement-F.AssignStatic p c f e) = assign_static p c f (expression_view e)
statement_step (CoreStatement-F.AssignElement p t e i g) = assign_element p t (expression_view e) (expression_view i) (expression_view g)
statement_step (CoreStatement-F.StoreModule p c e) = store_module_of p c (expression_view e)
statement_step (CoreStatement-F.Throw p e) = throw_of p (expression_view e)
statement_step (CoreStatement-F.Leave p l) = leave_label p l
statement_step (CoreStatement-F.Break p) = break_nearest p
statement_step (CoreStatement-F.If p c ss ts) = if_of p (expression_view c) (statements_of ss.items) (statements_of ts.items)
statement_step (CoreStatement-F.While p c ss) = while_of p (expression_view c) (statements_of ss.items)
statement_step (CoreStatement-F.Loop p ss) = loop_of p (statements_of ss.items)
statement_step (CoreStatement-F.Labeled p l ss) = labeled_of p l (statements_of ss.items)
statement_step (CoreStatement-F.Switch p e cs ss) = switch_of p (expression_view e) (cases_of cs.items) (statements_of ss.items)
statement_step (CoreStatement-F.Try p ss x ts) = try_of p (statements_of ss.items) (variable_view x) (statements_of ts.items)
statement_step (CoreStatement-F.Finally p ss ts) = finally_of p (statements_of ss.items) (statements_of ts.items)

abbrev pub case_step : CoreCase-F Statement Case → Case
case_step c = (c.keys, statements_of c.body.items)

abbrev pub statement_view : CoreStatement → Statement
statement_view = fold-CoreStatement Statement Case statement_step case_step

abbrev pub case_view : CoreCase → Case
case_view = fold-CoreCase Statement Case statement_step case_step

abbrev pub statements_view : List CoreStatement → Statements
statements_view ss = statements_of (map statement_view ss)

abbrev pub cases_view : List CoreCase → Cases
cases_view cs = cases_of (map case_view cs)

abbrev pub method_view : CoreMethod → Method
method_view m = record { namespace = m.namespace; params = m.params; body = statements_view m.body.items }

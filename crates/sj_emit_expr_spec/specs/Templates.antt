-- The emitted text of each expression and statement of the core: one line a form and an operator.
use Rattle.std.specs.Prelude.{ℕ, zero, Bool, true, false, List, [], ◌∷◌, pos, codes}
use Rattle.js_tree.specs.Terms as js
use Rattle.js_tree.specs.Terms.{Name, null_literal, boolean_literal, undefined_literal, number_literal, big_literal, text_literal, name_use, property_of, call_of, method_call_of, new_of, binary_of, conditional_of, host_call, host_call_of_two, const_of, let_of, expression_statement, assign_name, assign_property, break_to, if_only, if_else, do_forever, switch_on}
use Rattle.js_tree.specs.declared.operators.BinaryOperator.TheVariants.{Add, Subtract, Multiply, Divide, Remainder, BitAnd, BitOr, BitXor, ShiftLeft, ShiftRight, ShiftRightUnsigned, StrictEqual, StrictNotEqual, Less, LessOrEqual, Greater, GreaterOrEqual}
use Rattle.js_tree.specs.declared.operators.HostFunction.TheVariants.{BigInt, Number, StringFromCharCode, ConsoleLog}
use Rattle.js_tree.specs.declared.operators.HostOperation.TheVariants.{BigIntAsIntN, BigIntAsUintN, MathImul}
use Rattle.js_tree.specs.declared.operators.UnaryOperator.TheVariants.{Not}
use Rattle.sj_desugar_spec.specs.Lookup.{Lookup}
use Rattle.sj_desugar_spec.specs.Terms as core
use Rattle.sj_desugar_spec.specs.Terms.{Variable, undefined_value, null_value, boolean_value, number_value, long_value, text_value, variable_use, boxed_char, char_text, value_text, choice_of, static_call, field_of, static_of, checked_value, made_of, receiver_call, new_array_of, array_of, length_of, element_of, constant_of, define_of, assign_to, assign_field, assign_static, assign_element, evaluate_of, log_of, leave_label, if_of, loop_of, switch_of, try_of, finally_of, Method}
use Rattle.sj_desugar_spec.specs.Callee.{Callee}
use Rattle.sj_desugar_spec.specs.CalleeVariants as callees
use Rattle.sj_emit_expr_spec.specs.Names.{variable_name, label_name}
use Rattle.sj_emit_expr_spec.specs.Tests.{of_array, test_template, cast_template, same_template}
use Rattle.sj_mangling.specs.Bindings.{function_name, class_binding, field_binding, method_binding}
use Rattle.sj_mangling.specs.declared.bindings.ClassBinding.TheVariants.{Class, LoadModule, StoreModule}
use Rattle.sj_mangling.specs.declared.bindings.FieldBinding.TheVariants.{Property, Variable as StaticField, Setter}
use Rattle.sj_mangling.specs.declared.bindings.MethodBinding.TheVariants.{Entry, Dispatch, Reflective}
use Rattle.sj_mangling.specs.Member.{Member}
use Rattle.sj_mangling.specs.MethodName.{MethodName}
use Rattle.sj_mangling.specs.Namespace.{Namespace}
use Rattle.sj_mangling.specs.NamespaceVariants.{Public}
use Rattle.sj_desugar_spec.specs.BinaryOp.{BinaryOp}
use Rattle.sj_desugar_spec.specs.BinaryOpVariants as binary
use Rattle.sj_desugar_spec.specs.BinaryOpVariants.{StringConcatenate, BooleanEqual, BooleanNotEqual, BooleanOr, BooleanAnd, IntAdd, IntSubtract, IntMultiply, IntDivide, IntRemainder, IntOr, IntAnd, IntXor, IntShiftLeft, IntShiftRightLogical, IntShiftRightArithmetic, IntEqual, IntNotEqual, IntLess, IntLessOrEqual, IntGreater, IntGreaterOrEqual, LongAdd, LongSubtract, LongMultiply, LongDivide, LongRemainder, LongOr, LongAnd, LongXor, LongShiftLeft, LongShiftRightLogical, LongShiftRightArithmetic, LongEqual, LongNotEqual, LongLess, LongLessOrEqual, LongGreater, LongGreaterOrEqual}
use Rattle.sj_desugar_spec.specs.UnaryOp.{UnaryOp}
use Rattle.sj_desugar_spec.specs.UnaryOpVariants.{BooleanNot, CharToInt, ByteToInt, ShortToInt, IntToLong, IntToChar, IntToByte, IntToShort, LongToInt}
use Rattle.sj_desugar_spec.specs.IrType.{IrType}
use Rattle.sj_desugar_spec.specs.IrTypeVariants as types
use Rattle.sj_trees.specs.Types.{element_type}

abbrev pub whole : ℕ → js.Expression
whole n = number_literal (pos n)

abbrev pub negated : js.Expression → js.Expression
negated e = js.unary_of Not e

-- `(e | 0)`
abbrev pub or_zero : js.Expression → js.Expression
or_zero e = binary_of e BitOr (whole 0)

-- `((e << n) >> n)`
abbrev pub cut : ℕ → js.Expression → js.Expression
cut n e = binary_of (binary_of e ShiftLeft (whole n)) ShiftRight (whole n)

-- `BigInt.asIntN(64, e)`
abbrev pub wrapped : js.Expression → js.Expression
wrapped e = host_call_of_two BigIntAsIntN (whole 64) e

-- `BigInt((e & 63))`: by how many places a long is shifted
abbrev pub places : js.Expression → js.Expression
places e = host_call BigInt (binary_of e BitAnd (whole 63))

-- `("" + e)`
abbrev pub as_text : js.Expression → js.Expression
as_text e = binary_of (text_literal []) Add e

abbrev pub unary_template : UnaryOp → js.Expression → js.Expression
unary_template BooleanNot e = negated e
unary_template CharToInt e = e
unary_template ByteToInt e = e
unary_template ShortToInt e = e
unary_template IntToLong e = host_call BigInt e
unary_template IntToChar e = binary_of e BitAnd (whole 65535)
unary_template IntToByte e = cut 24 e
unary_template IntToShort e = cut 16 e
unary_template LongToInt e = host_call Number (host_call_of_two BigIntAsIntN (whole 32) e)

-- a literal other than zero
abbrev pub is_nonzero_literal : core.Expression → Bool
is_nonzero_literal undefined_value = true
is_nonzero_literal null_value = true
is_nonzero_literal (boolean_value b) = true
is_nonzero_literal (number_value (pos zero)) = false
is_nonzero_literal (number_value z) = true
is_nonzero_literal (long_value (pos zero)) = false
is_nonzero_literal (long_value z) = true
is_nonzero_literal (text_value us) = true
is_nonzero_literal _ = false

-- by whether the right operand is a literal other than zero
abbrev pub binary_template : Bool → BinaryOp → js.Expression → js.Expression → js.Expression
binary_template nonzero StringConcatenate e g = binary_of e Add g
binary_template nonzero BooleanEqual e g = binary_of e StrictEqual g
binary_template nonzero BooleanNotEqual e g = binary_of e StrictNotEqual g
binary_template nonzero BooleanOr e g = negated (negated (binary_of e BitOr g))
binary_template nonzero BooleanAnd e g = negated (negated (binary_of e BitAnd g))
binary_template nonzero IntAdd e g = or_zero (binary_of e Add g)
binary_template nonzero IntSubtract e g = or_zero (binary_of e Subtract g)
binary_template nonzero IntMultiply e g = host_call_of_two MathImul e g
binary_template true IntDivide e g = or_zero (binary_of e Divide g)
binary_template false IntDivide e g = call_of (codes "$id") (js.expression e (js.expression g js.no_expressions))
binary_template true IntRemainder e g = or_zero (binary_of e Remainder g)
binary_template false IntRemainder e g = call_of (codes "$im") (js.expression e (js.expression g js.no_expressions))
binary_template nonzero IntOr e g = binary_of e BitOr g
binary_template nonzero IntAnd e g = binary_of e BitAnd g
binary_template nonzero IntXor e g = binary_of e BitXor g
binary_template nonzero IntShiftLeft e g = binary_of e ShiftLeft g
binary_template nonzero IntShiftRightLogical e g = or_zero (binary_of e ShiftRightUnsigned g)
binary_template nonzero IntShiftRightArithmetic e g = binary_of e ShiftRight g
binary_template nonzero IntEqual e g = binary_of e StrictEqual g
binary_template nonzero IntNotEqual e g = binary_of e StrictNotEqual g
binary_template nonzero IntLess e g = binary_of e Less g
binary_template nonzero IntLessOrEqual e g = binary_of e LessOrEqual g
binary_template nonzero IntGreater e g = binary_of e Greater g
binary_template nonzero IntGreaterOrEqual e g = binary_of e GreaterOrEqual g
binary_template nonzero LongAdd e g = wrapped (binary_of e Add g)
binary_template nonzero LongSubtract e g = wrapped (binary_of e Subtract g)
binary_template nonzero LongMultiply e g = wrapped (binary_of e Multiply g)
binary_template true LongDivide e g = wrapped (binary_of e Divide g)
binary_template false LongDivide e g = call_of (codes "$ld") (js.expression e (js.expression g js.no_expressions))
binary_template true LongRemainder e g = binary_of e Remainder g
binary_template false LongRemainder e g = call_of (codes "$lm") (js.expression e (js.expression g js.no_expressions))
binary_template nonzero LongOr e g = binary_of e BitOr g
binary_template nonzero LongAnd e g = binary_of e BitAnd g
binary_template nonzero LongXor e g = binary_of e BitXor g
binary_template nonzero LongShiftLeft e g = wrapped (binary_of e ShiftLeft (places g))
binary_template nonzero LongShiftRightLogical e g = wrapped (binary_of (host_call_of_two BigIntAsUintN (whole 64) e) ShiftRight (places g))
binary_template nonzero LongShiftRightArithmetic e g = binary_of e ShiftRight (places g)
binary_template nonzero LongEqual e g = binary_of e StrictEqual g
binary_template nonzero LongNotEqual e g = binary_of e StrictNotEqual g
binary_template nonzero LongLess e g = binary_of e Less g
binary_template nonzero LongLessOrEqual e g = binary_of e LessOrEqual g
binary_template nonzero LongGreater e g = binary_of e Greater g
binary_template nonzero LongGreaterOrEqual e g = binary_of e GreaterOrEqual g
binary_template nonzero binary.StrictEqual e g = same_template e g
binary_template nonzero binary.StrictNotEqual e g = negated (same_template e g)

abbrev pub member_name : Member → Name
member_name m = function_name m.namespace m.class m.method

-- a class; the property of a field; a static field, and the function that sets it
abbrev pub class_name : List ℕ → Name
class_name c = class_binding Class c

abbrev pub property_name : List ℕ → List ℕ → Name
property_name c f = field_binding Property c f

abbrev pub static_name : List ℕ → List ℕ → Name
static_name c f = field_binding StaticField c f

abbrev pub setter_name : List ℕ → List ℕ → Name
setter_name c f = field_binding Setter c f

-- the function that loads the one object of a class, and the one that stores it
abbrev pub load_name : List ℕ → Name
load_name c = class_binding LoadModule c

abbrev pub store_name : List ℕ → Name
store_name c = class_binding StoreModule c

-- the helper that hands on what isn't null
abbrev pub check_name : Name
check_name = codes "$nn"

-- the value that a field, a variable or an element of a type begins with
abbrev pub zero_template : IrType → js.Expression
zero_template types.Boolean = boolean_literal false
zero_template types.Char = whole 0
zero_template types.Byte = whole 0
zero_template types.Short = whole 0
zero_template types.Int = whole 0
zero_template types.Long = big_literal (pos 0)
zero_template types.String = text_literal []
zero_template types.Undefined = undefined_literal
zero_template _ = null_literal

-- the helper that sets an element of this type: where it is no primitive one, that asks whether the array may hold the value
abbrev pub element_setter : IrType → Name
element_setter types.Undefined = codes "$set"
element_setter types.Boolean = codes "$set"
element_setter types.Char = codes "$set"
element_setter types.Byte = codes "$set"
element_setter types.Short = codes "$set"
element_setter types.Int = codes "$set"
element_setter types.Long = codes "$set"
element_setter types.String = codes "$set"
element_setter types.Null = codes "$set"
element_setter _ = codes "$put"

-- a choice whose second branch has no statements is written without it
abbrev pub choice_template : js.Expression → js.Statements → js.Statements → js.Statement
choice_template c ss js.no_statements = if_only c ss
choice_template c ss (js.statement t ts) = if_else c ss (js.statement t ts)

-- what a call of a member on a receiver runs: a public one may be a member that the class inherits, and any other is its own
abbrev pub called_member : Lookup → Namespace → Member → Member
called_member known Public m = known.target m
called_member known _ m = m

-- a method that is looked up: where a hijacked class stands below the class of the receiver, this may be a primitive value, and a function tells it from objects
abbrev pub looked_up_template : Bool → MethodName → js.Expression → js.Expressions → js.Expression
looked_up_template true m x xs = call_of (method_binding Dispatch m) (js.expression x xs)
looked_up_template false m x xs = method_call_of x (method_binding Entry m) xs

-- a call on a receiver, with these arguments
abbrev pub call_template : Lookup → Callee → js.Expression → js.Expressions → js.Expression
call_template known (callees.Member m) x xs = call_of (member_name (called_member known m.namespace m)) (js.expression x xs)
call_template known (callees.LookedUp c m) x xs = looked_up_template (known.has_hijacked c) m x xs
call_template known (callees.OfArray m) x xs = looked_up_template false m x xs
call_template known (callees.Reflective m) x xs = call_of (method_binding Reflective m) (js.expression x xs)

-- for any names of variables and labels, by what is known of the classes
module _ (name : Variable → Name) (label : List ℕ → Name) (known : Lookup) where
  abbrev mutual
    pub expression_template : core.Expression → js.Expression
    expression_template undefined_value = undefined_literal
    expression_template null_value = null_literal
    expression_template (boolean_value b) = boolean_literal b
    expression_template (number_value z) = number_literal z
    expression_template (long_value z) = big_literal z
    expression_template (text_value us) = text_literal us
    expression_template (variable_use x) = name_use (name x)
    expression_template (boxed_char e) = new_of (codes "$C") (js.expression (expression_template e) js.no_expressions)
    expression_template (char_text e) = host_call StringFromCharCode (expression_template e)
    expression_template (value_text e) = as_text (expression_template e)
    expression_template (choice_of c e g) = conditional_of (expression_template c) (expression_template e) (expression_template g)
    expression_template (static_call m es) = call_of (member_name m) (expression_templates es)
    expression_template (field_of e c f) = property_of (expression_template e) (property_name c f)
    expression_template (static_of c f) = name_use (static_name c f)
    expression_template (core.module_of c) = call_of (load_name c) js.no_expressions
    expression_template (checked_value e) = call_of check_name (js.expression (expression_template e) js.no_expressions)
    expression_template (made_of m es) = call_of (member_name m) (js.expression (new_of (class_name m.class) js.no_expressions) (expression_templates es))
    expression_template (receiver_call k e es) = call_template known k (expression_template e) (expression_templates es)
    expression_template (core.test_of t e) = test_template t (expression_template e)
    expression_template (core.cast_of t e) = cast_template t (expression_template e)
    expression_template (new_array_of r e) = call_of (codes "$mk") (of_array r (js.expression (expression_template e) (js.expression (zero_template (element_type r)) js.no_expressions)))
    expression_template (array_of r es) = new_of (codes "$A") (of_array r (js.expression (js.list_of (expression_templates es)) js.no_expressions))
    expression_template (length_of e) = property_of (property_of (expression_template e) (codes "a")) (codes "length")
    expression_template (element_of e i) = call_of (codes "$get") (js.expression (expression_template e) (js.expression (expression_template i) js.no_expressions))
    expression_template (core.unary_of o e) = unary_template o (expression_template e)
    expression_template (core.binary_of o e g) = binary_template (is_nonzero_literal g) o (expression_template e) (expression_template g)

    pub expression_templates : core.Expressions → js.Expressions
    expression_templates core.no_expressions = js.no_expressions
    expression_templates (core.expression e es) = js.expression (expression_template e) (expression_templates es)

  abbrev mutual
    pub statement_template : core.Statement → js.Statement
    statement_template (constant_of p x e) = const_of (name x) (expression_template e)
    statement_template (define_of p x e) = let_of (name x) (expression_template e)
    statement_template (core.declare_of p x) = js.declare_of (name x)
    statement_template (assign_to p x e) = assign_name (name x) (expression_template e)
    statement_template (evaluate_of p e) = expression_statement (expression_template e)
    statement_template (core.return_of p e) = js.return_of (expression_template e)
    statement_template (log_of p e) = expression_statement (host_call ConsoleLog (expression_template e))
    statement_template (assign_field p e c f g) = assign_property (expression_template e) (property_name c f) (expression_template g)
    statement_template (assign_static p c f e) = expression_statement (call_of (setter_name c f) (js.expression (expression_template e) js.no_expressions))
    statement_template (assign_element p t e i g) = expression_statement (call_of (element_setter t) (js.expression (expression_template e) (js.expression (expression_template i) (js.expression (expression_template g) js.no_expressions))))
    statement_template (core.store_module_of p c e) = expression_statement (call_of (store_name c) (js.expression (expression_template e) js.no_expressions))
    statement_template (core.throw_of p e) = js.throw_of (expression_template e)
    statement_template (leave_label p l) = break_to (label l)
    statement_template (core.break_nearest p) = js.break_nearest
    statement_template (if_of p c ss ts) = choice_template (expression_template c) (statement_templates ss) (statement_templates ts)
    statement_template (core.while_of p c ss) = js.while_of (expression_template c) (statement_templates ss)
    statement_template (loop_of p ss) = do_forever (statement_templates ss)
    statement_template (core.labeled_of p l ss) = js.labeled_of (label l) (statement_templates ss)
    statement_template (switch_of p e cs ss) = switch_on (expression_template e) (case_templates cs) (statement_templates ss)
    statement_template (try_of p ss x ts) = js.try_catch (statement_templates ss) (name x) (statement_templates ts)
    statement_template (finally_of p ss ts) = js.try_finally (statement_templates ss) (statement_templates ts)

    pub statement_templates : core.Statements → js.Statements
    statement_templates core.no_statements = js.no_statements
    statement_templates (core.statement s ss) = js.statement (statement_template s) (statement_templates ss)

    pub case_templates : core.Cases → js.Cases
    case_templates core.no_cases = js.no_cases
    case_templates (core.switch_case ks ss cs) = js.switch_case ks (statement_templates ss) (case_templates cs)

-- the parameters of a function, and its statements
abbrev pub parameter_names : List (List ℕ) → List Name
parameter_names [] = []
parameter_names (x ∷ xs) = variable_name (core.named x) ∷ parameter_names xs

abbrev pub body_template : Lookup → Method → js.Statements
body_template known m = statement_templates variable_name label_name known m.body

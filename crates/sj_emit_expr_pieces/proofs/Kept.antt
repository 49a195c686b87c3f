-- The piece of a method keeps the rules of printing.
use Rattle.std.proofs.Common.{◌<◌, ◌^◌, Bool, true, false, List, [], ◌∷◌, ℕ, refl, arith}
use Rattle.std.specs.Prelude.{All, IsTrue}
use Rattle.std.proofs.lemmas.List.Elements.{All-nil, All-cons, All-head, All-tail}
use Rattle.sj_emit_expr_questions.specs.Calls.{own_call, calls_in, calls_in_all, calls_of, calls_of_all, calls_of_cases}
use Rattle.js_tree.specs.Rules.{is_receiver, IsName, IsUnit, IsExpression, IsExpressions, IsStatement, AreStatements, AreCases, IsPiece}
use Rattle.js_tree.specs.Terms as js
use Rattle.sj_core.specs.Lookup.{Lookup}
use Rattle.sj_core.specs.Terms as core
use Rattle.sj_core.specs.declared.callees.Callee.{Callee}
use Rattle.sj_core.specs.declared.callees.Callee.TheVariants as callees
use Rattle.sj_emit_expr_spec.specs.Members.{with_receiver, member_piece}
use Rattle.sj_emit_expr_spec.specs.Names.{variable_name, label_name}
use Rattle.sj_emit_expr_spec.specs.Templates.{zero_template, unary_template, binary_template, is_nonzero_literal, choice_template, expression_template, expression_templates, statement_template, statement_templates, case_templates, parameter_names, called_member, looked_up_template, call_template}
use Rattle.sj_emit_expr_spec.specs.Tests.{base_template, of_array, array_text, test_template, cast_template}
use Rattle.sj_mangling.specs.declared.bindings.MethodBinding.TheVariants.{Dispatch, Reflective}
use Rattle.sj_names.specs.References.{spelled_array}
use Rattle.sj_names.specs.declared.references.ArrayRef.{ArrayRef}
use Rattle.sj_names.specs.declared.references.BaseRef.{BaseRef}
use Rattle.sj_names.specs.declared.references.BaseRef.TheVariants as bases
use Rattle.sj_names.specs.declared.references.TypeRef.TheVariants as references
use Rattle.sj_names.specs.declared.method_names.Member.{Member}
use Rattle.sj_names.specs.declared.method_names.MethodName.{MethodName}
use Rattle.sj_names.specs.declared.method_names.Namespace.{Namespace}
use Rattle.sj_names.specs.declared.method_names.Namespace.TheVariants.{Public, PublicStatic, Private, PrivateStatic, Constructor}
use Rattle.sj_trees.specs.declared.operators.BinaryOp.{BinaryOp}
use Rattle.sj_trees.specs.declared.operators.BinaryOp.TheVariants as binary
use Rattle.sj_trees.specs.declared.operators.BinaryOp.TheVariants.{StringConcatenate, BooleanEqual, BooleanNotEqual, BooleanOr, BooleanAnd, IntAdd, IntSubtract, IntMultiply, IntDivide, IntRemainder, IntOr, IntAnd, IntXor, IntShiftLeft, IntShiftRightLogical, IntShiftRightArithmetic, IntEqual, IntNotEqual, IntLess, IntLessOrEqual, IntGreater, IntGreaterOrEqual, LongAdd, LongSubtract, LongMultiply, LongDivide, LongRemainder, LongOr, LongAnd, LongXor, LongShiftLeft, LongShiftRightLogical, LongShiftRightArithmetic, LongEqual, LongNotEqual, LongLess, LongLessOrEqual, LongGreater, LongGreaterOrEqual}
use Rattle.sj_trees.specs.declared.operators.UnaryOp.{UnaryOp}
use Rattle.sj_trees.specs.declared.operators.UnaryOp.TheVariants.{BooleanNot, CharToInt, ByteToInt, ShortToInt, IntToLong, IntToChar, IntToByte, IntToShort, LongToInt}
use Rattle.sj_trees.specs.declared.types.IrType.{IrType}
use Rattle.sj_trees.specs.declared.types.IrType.TheVariants as types
use Rattle.sj_trees.specs.declared.types.IrType.TheVariants.{Any, Array}
use Rattle.sj_trees.specs.Types.{element_type}
use Rattle.sj_emit_expr_pieces.specs.Fits.{RunsFit, TargetsFit}
use Rattle.sj_emit_expr_pieces.specs.Keys.{IsKeyed, AreKeyed, HaveKeys, HasKeys}
use Rattle.sj_emit_expr_pieces.specs.Owners.{MayCall, HasOwners, HaveOwners, IsOwned, AreOwned, CasesOwned, FieldsHaveOwners}
use Rattle.sj_emit_expr_pieces.specs.Ranges.{AreBytes, FitsBase, FitsArray, FitsType, FitsMethodName, FitsMember, FitsCallee, FitsExpression, FitExpressions, FitsStatement, FitStatements, FitCases, FitsMethod}
use Rattle.sj_emit_expr_pieces.proofs.Names.{reference-bytes, constants-named, element-setter-named, variable-named, label-named, member-named, method-named, entry-named, class-named, test-named, cast-named, property-named, static-named, setter-named, load-named, store-named}
use Rattle.sj_emit_expr_pieces.proofs.Runs.{two, three, run-fits}
use Rattle.sj_emit_expr_pieces.proofs.Units.{text-units}
use Rattle.sj_emit_expr_pieces.proofs.Uses.{uses-named}

unary-kept : (o : UnaryOp) (e : js.Expression) → IsExpression e → IsExpression (unary_template o e)
unary-kept BooleanNot e h = h
unary-kept CharToInt e h = h
unary-kept ByteToInt e h = h
unary-kept ShortToInt e h = h
unary-kept IntToLong e h = h
unary-kept IntToChar e h = (h, omega arith)
unary-kept IntToByte e h = ((h, omega arith), omega arith)
unary-kept IntToShort e h = ((h, omega arith), omega arith)
unary-kept LongToInt e h = (omega arith, h)

binary-kept : (nonzero : Bool) (o : BinaryOp) (e g : js.Expression) → IsExpression e → IsExpression g → IsExpression (binary_template nonzero o e g)
binary-kept nonzero StringConcatenate e g h k = (h, k)
binary-kept nonzero BooleanEqual e g h k = (h, k)
binary-kept nonzero BooleanNotEqual e g h k = (h, k)
binary-kept nonzero BooleanOr e g h k = (h, k)
binary-kept nonzero BooleanAnd e g h k = (h, k)
binary-kept nonzero IntAdd e g h k = ((h, k), omega arith)
binary-kept nonzero IntSubtract e g h k = ((h, k), omega arith)
binary-kept nonzero IntMultiply e g h k = (h, k)
binary-kept true IntDivide e g h k = ((h, k), omega arith)
binary-kept false IntDivide e g h k = (refl, (h, (k, tt)))
binary-kept true IntRemainder e g h k = ((h, k), omega arith)
binary-kept false IntRemainder e g h k = (refl, (h, (k, tt)))
binary-kept nonzero IntOr e g h k = (h, k)
binary-kept nonzero IntAnd e g h k = (h, k)
binary-kept nonzero IntXor e g h k = (h, k)
binary-kept nonzero IntShiftLeft e g h k = (h, k)
binary-kept nonzero IntShiftRightLogical e g h k = ((h, k), omega arith)
binary-kept nonzero IntShiftRightArithmetic e g h k = (h, k)
binary-kept nonzero IntEqual e g h k = (h, k)
binary-kept nonzero IntNotEqual e g h k = (h, k)
binary-kept nonzero IntLess e g h k = (h, k)
binary-kept nonzero IntLessOrEqual e g h k = (h, k)
binary-kept nonzero IntGreater e g h k = (h, k)
binary-kept nonzero IntGreaterOrEqual e g h k = (h, k)
binary-kept nonzero LongAdd e g h k = (omega arith, (h, k))
binary-kept nonzero LongSubtract e g h k = (omega arith, (h, k))
binary-kept nonzero LongMultiply e g h k = (omega arith, (h, k))
binary-kept true LongDivide e g h k = (omega arith, (h, k))
binary-kept false LongDivide e g h k = (refl, (h, (k, tt)))
binary-kept true LongRemainder e g h k = (h, k)
binary-kept false LongRemainder e g h k = (refl, (h, (k, tt)))
binary-kept nonzero LongOr e g h k = (h, k)
binary-kept nonzero LongAnd e g h k = (h, k)
binary-kept nonzero LongXor e g h k = (h, k)
binary-kept nonzero LongShiftLeft e g h k = (omega arith, (h, (k, omega arith)))
binary-kept nonzero LongShiftRightLogical e g h k = (omega arith, ((omega arith, h), (k, omega arith)))
binary-kept nonzero LongShiftRightArithmetic e g h k = (h, (k, omega arith))
binary-kept nonzero LongEqual e g h k = (h, k)
binary-kept nonzero LongNotEqual e g h k = (h, k)
binary-kept nonzero LongLess e g h k = (h, k)
binary-kept nonzero LongLessOrEqual e g h k = (h, k)
binary-kept nonzero LongGreater e g h k = (h, k)
binary-kept nonzero LongGreaterOrEqual e g h k = (h, k)
binary-kept nonzero binary.StrictEqual e g h k = (refl, (h, (k, tt)))
binary-kept nonzero binary.StrictNotEqual e g h k = (refl, (h, (k, tt)))

-- arrays
letter-kept : (u : ℕ) → u < 2 ^ 16 → All IsUnit (u ∷ [])
letter-kept u h = All-cons IsUnit u [] h (All-nil IsUnit)

base-kept : (r : BaseRef) → FitsBase r → IsExpression (base_template r)
base-kept bases.Boolean h = letter-kept 90 (omega arith)
base-kept bases.Char h = letter-kept 67 (omega arith)
base-kept bases.Byte h = letter-kept 66 (omega arith)
base-kept bases.Short h = letter-kept 83 (omega arith)
base-kept bases.Int h = letter-kept 73 (omega arith)
base-kept bases.Long h = letter-kept 74 (omega arith)
base-kept (bases.Class c) h = constants-named c h

of-array-kept : (r : ArrayRef) (es : js.Expressions) → FitsArray r → IsExpressions es → IsExpressions (of_array r es)
of-array-kept r es h k = let l : r.dimensions < 2 ^ 8 = h.0 in (omega (arith, l), (base-kept r.base h.1, k))

array-text-kept : (r : ArrayRef) → FitsArray r → All IsUnit (array_text r)
array-text-kept r h = text-units (spelled_array r) (reference-bytes (references.Array r) h.1)

zero-kept : (t : IrType) → IsExpression (zero_template t)
zero-kept types.Boolean = tt
zero-kept types.Char = omega arith
zero-kept types.Byte = omega arith
zero-kept types.Short = omega arith
zero-kept types.Int = omega arith
zero-kept types.Long = omega arith
zero-kept types.String = All-nil IsUnit
zero-kept types.Undefined = tt
zero-kept _ = tt

test-kept : (t : IrType) (e : js.Expression) → FitsType t → IsExpression e → IsExpression (test_template t e)
test-kept (Array r) e h k = (refl, (k, of-array-kept r js.no_expressions h tt))
test-kept t e h k = (test-named t h, (k, tt))

cast-kept : (t : IrType) (e : js.Expression) → FitsType t → IsExpression e → IsExpression (cast_template t e)
cast-kept Any e h k = k
cast-kept (Array r) e h k = (refl, (k, of-array-kept r (js.expression (js.text_literal (array_text r)) js.no_expressions) h (array-text-kept r h, tt)))
cast-kept t e h k = (cast-named t h, (k, tt))

choice-kept : (c : js.Expression) (ss ts : js.Statements) → IsExpression c → AreStatements ss → AreStatements ts → IsStatement (choice_template c ss ts)
choice-kept c ss js.no_statements h k l = (h, k)
choice-kept c ss (js.statement t ts) h k l = (h, k, l)

looked-up-kept : (mixed : Bool) (m : MethodName) (x : js.Expression) (xs : js.Expressions) → FitsMethodName m → IsTrue (is_receiver x) → IsExpression x → IsExpressions xs → IsExpression (looked_up_template mixed m x xs)
looked-up-kept true m x xs h o k l = (method-named Dispatch m h, (k, l))
looked-up-kept false m x xs h o k l = (o, k, entry-named m h, l)

module _ (known : Lookup) where
  call-kept : (k : Callee) (e : core.Expression) (xs : js.Expressions) → FitsCallee k → MayCall k e → RunsFit known (own_call k) → IsExpression (expression_template variable_name label_name known e) → IsExpressions xs → IsExpression (call_template known k (expression_template variable_name label_name known e) xs)
  call-kept (callees.Member m) e xs h o r x l = (member-named (called_member known m.namespace m) (run-fits known m.namespace m r h), (x, l))
  call-kept (callees.LookedUp c m) e xs h o r x l = looked-up-kept (known.has_hijacked c) m (expression_template variable_name label_name known e) xs h.1 (o known) x l
  call-kept (callees.OfArray m) e xs h o r x l = looked-up-kept false m (expression_template variable_name label_name known e) xs h (o known) x l
  call-kept (callees.Reflective m) e xs h o r x l = (method-named Reflective m h, (x, l))

  mutual
    expression-kept : (e : core.Expression) → FitsExpression e → HasOwners e → RunsFit known (calls_in e) → IsExpression (expression_template variable_name label_name known e)
    expression-kept (core.number_value z) h o r = h
    expression-kept (core.long_value z) h o r = h
    expression-kept (core.text_value us) h o r = h
    expression-kept (core.variable_use x) h o r = variable-named x h
    expression-kept (core.boxed_char e) h o r = (refl, (expression-kept e h o r, tt))
    expression-kept (core.char_text e) h o r = expression-kept e h o r
    expression-kept (core.value_text e) h o r = (All-nil IsUnit, expression-kept e h o r)
    expression-kept (core.choice_of c e g) h o r = let q = three known (calls_in c) (calls_in e) (calls_in g) r in (expression-kept c h.0 o.0 q.0, expression-kept e h.1 o.1 q.1, expression-kept g h.2 o.2 q.2)
    expression-kept (core.static_call m es) h o r = (member-named m h.0, expressions-kept es h.1 o r)
    expression-kept (core.field_of e c f) h o r = (o.0 known, expression-kept e h.0 o.1 r, property-named c f h.1 h.2)
    expression-kept (core.static_of c f) h o r = static-named c f h.0 h.1
    expression-kept (core.module_of c) h o r = (load-named c h, tt)
    expression-kept (core.checked_value e) h o r = (refl, (expression-kept e h o r, tt))
    expression-kept (core.made_of m es) h o r = (member-named m h.0, ((class-named m.class h.0.0, tt), expressions-kept es h.1 o r))
    expression-kept (core.receiver_call k e es) h o r = let q = three known (calls_in e) (calls_in_all es) (own_call k) r in call-kept k e (expression_templates variable_name label_name known es) h.0 o.0 q.2 (expression-kept e h.1 o.1 q.0) (expressions-kept es h.2 o.2 q.1)
    expression-kept (core.test_of t e) h o r = test-kept t (expression_template variable_name label_name known e) h.0 (expression-kept e h.1 o r)
    expression-kept (core.cast_of t e) h o r = cast-kept t (expression_template variable_name label_name known e) h.0 (expression-kept e h.1 o r)
    expression-kept (core.new_array_of a e) h o r = (refl, of-array-kept a (js.expression (expression_template variable_name label_name known e) (js.expression (zero_template (element_type a)) js.no_expressions)) h.0 (expression-kept e h.1 o r, (zero-kept (element_type a), tt)))
    expression-kept (core.array_of a es) h o r = (refl, of-array-kept a (js.expression (js.list_of (expression_templates variable_name label_name known es)) js.no_expressions) h.0 (expressions-kept es h.1 o r, tt))
    expression-kept (core.length_of e) h o r = (refl, (o.0 known, expression-kept e h o.1 r, refl), refl)
    expression-kept (core.element_of e i) h o r = let q = two known (calls_in e) (calls_in i) r in (refl, (expression-kept e h.0 o.0 q.0, (expression-kept i h.1 o.1 q.1, tt)))
    expression-kept (core.unary_of u e) h o r = unary-kept u (expression_template variable_name label_name known e) (expression-kept e h o r)
    expression-kept (core.binary_of b e g) h o r = let q = two known (calls_in e) (calls_in g) r in binary-kept (is_nonzero_literal g) b (expression_template variable_name label_name known e) (expression_template variable_name label_name known g) (expression-kept e h.0 o.0 q.0) (expression-kept g h.1 o.1 q.1)
    expression-kept _ h o r = tt

    expressions-kept : (es : core.Expressions) → FitExpressions es → HaveOwners es → RunsFit known (calls_in_all es) → IsExpressions (expression_templates variable_name label_name known es)
    expressions-kept core.no_expressions h o r = tt
    expressions-kept (core.expression e es) h o r = let q = two known (calls_in e) (calls_in_all es) r in (expression-kept e h.0 o.0 q.0, expressions-kept es h.1 o.1 q.1)

  mutual
    statement-kept : (s : core.Statement) → FitsStatement s → IsKeyed s → IsOwned s → RunsFit known (calls_of s) → IsStatement (statement_template variable_name label_name known s)
    statement-kept (core.constant_of p x e) h k o r = (variable-named x h.0, expression-kept e h.1 o r)
    statement-kept (core.define_of p x e) h k o r = (variable-named x h.0, expression-kept e h.1 o r)
    statement-kept (core.declare_of p x) h k o r = variable-named x h
    statement-kept (core.assign_to p x e) h k o r = (variable-named x h.0, expression-kept e h.1 o r)
    statement-kept (core.evaluate_of p e) h k o r = expression-kept e h o r
    statement-kept (core.return_of p e) h k o r = expression-kept e h o r
    statement-kept (core.log_of p e) h k o r = expression-kept e h o r
    statement-kept (core.assign_field p e c f g) h k o r = let q = two known (calls_in e) (calls_in g) r in (o.0 known, expression-kept e h.0 o.1 q.0, property-named c f h.1 h.2, expression-kept g h.3 o.2 q.1)
    statement-kept (core.assign_static p c f e) h k o r = (setter-named c f h.0 h.1, (expression-kept e h.2 o r, tt))
    statement-kept (core.assign_element p t e i g) h k o r = let q = three known (calls_in e) (calls_in i) (calls_in g) r in (element-setter-named t, (expression-kept e h.0 o.0 q.0, (expression-kept i h.1 o.1 q.1, (expression-kept g h.2 o.2 q.2, tt))))
    statement-kept (core.store_module_of p c e) h k o r = (store-named c h.0, (expression-kept e h.1 o r, tt))
    statement-kept (core.throw_of p e) h k o r = expression-kept e h o r
    statement-kept (core.leave_label p l) h k o r = label-named l h
    statement-kept (core.break_nearest p) h k o r = tt
    statement-kept (core.if_of p c ss ts) h k o r = let q = three known (calls_in c) (calls_of_all ss) (calls_of_all ts) r in choice-kept (expression_template variable_name label_name known c) (statement_templates variable_name label_name known ss) (statement_templates variable_name label_name known ts) (expression-kept c h.0 o.0 q.0) (statements-kept ss h.1 k.0 o.1 q.1) (statements-kept ts h.2 k.1 o.2 q.2)
    statement-kept (core.while_of p c ss) h k o r = let q = two known (calls_in c) (calls_of_all ss) r in (expression-kept c h.0 o.0 q.0, statements-kept ss h.1 k o.1 q.1)
    statement-kept (core.loop_of p ss) h k o r = statements-kept ss h k o r
    statement-kept (core.labeled_of p l ss) h k o r = (label-named l h.0, statements-kept ss h.1 k o r)
    statement-kept (core.try_of p ss x ts) h k o r = let q = two known (calls_of_all ss) (calls_of_all ts) r in (statements-kept ss h.0 k.0 o.0 q.0, variable-named x h.1, statements-kept ts h.2 k.1 o.1 q.1)
    statement-kept (core.finally_of p ss ts) h k o r = let q = two known (calls_of_all ss) (calls_of_all ts) r in (statements-kept ss h.0 k.0 o.0 q.0, statements-kept ts h.1 k.1 o.1 q.1)
    statement-kept (core.switch_of p e cs ss) h k o r = let q = three known (calls_in e) (calls_of_cases cs) (calls_of_all ss) r in (expression-kept e h.0 o.0 q.0, cases-kept cs h.1 k.0 o.1 q.1, statements-kept ss h.2 k.1 o.2 q.2)

    statements-kept : (ss : core.Statements) → FitStatements ss → AreKeyed ss → AreOwned ss → RunsFit known (calls_of_all ss) → AreStatements (statement_templates variable_name label_name known ss)
    statements-kept core.no_statements h k o r = tt
    statements-kept (core.statement s ss) h k o r = let q = two known (calls_of s) (calls_of_all ss) r in (statement-kept s h.0 k.0 o.0 q.0, statements-kept ss h.1 k.1 o.1 q.1)

    cases-kept : (cs : core.Cases) → FitCases cs → HaveKeys cs → CasesOwned cs → RunsFit known (calls_of_cases cs) → AreCases (case_templates variable_name label_name known cs)
    cases-kept core.no_cases h k o r = tt
    cases-kept (core.switch_case ks ss cs) h k o r = let q = two known (calls_of_all ss) (calls_of_cases cs) r in ((k.0, h.0), statements-kept ss h.1 k.1 o.0 q.0, cases-kept cs h.2 k.2 o.1 q.1)

parameters-kept : (xs : List (List ℕ)) → All AreBytes xs → All IsName (parameter_names xs)
parameters-kept [] h = All-nil IsName
parameters-kept (x ∷ xs) h = All-cons IsName (variable_name (core.named x)) (parameter_names xs) (variable-named (core.named x) (All-head AreBytes x xs h)) (parameters-kept xs (All-tail AreBytes x xs h))

behind-receiver : (xs : List js.Name) → All IsName xs → All IsName (variable_name core.receiver ∷ xs)
behind-receiver xs h = All-cons IsName (variable_name core.receiver) xs (variable-named core.receiver tt) h

receiver-kept : (n : Namespace) (xs : List js.Name) → All IsName xs → All IsName (with_receiver n xs)
receiver-kept PublicStatic xs h = h
receiver-kept PrivateStatic xs h = h
receiver-kept Public xs h = behind-receiver xs h
receiver-kept Private xs h = behind-receiver xs h
receiver-kept Constructor xs h = behind-receiver xs h

pub piece-kept : (known : Lookup) (m : Member) (c : core.Method) → FitsMember m → FitsMethod c → HasKeys c → FieldsHaveOwners c → TargetsFit known c → IsPiece (member_piece known m c)
piece-kept known m c named fits keys owners runs = (member-named m named, uses-named known c.body fits.1 runs, (member-named m named, receiver-kept c.namespace (parameter_names c.params) (parameters-kept c.params fits.0), statements-kept known c.body fits.1 keys owners runs))

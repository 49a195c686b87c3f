-- The bindings that a method uses have names.
use Rattle.std.proofs.Common.{Bool, true, false, List, [], ◌∷◌, ◌++◌, refl, if◌then◌else◌}
use Rattle.std.specs.Prelude.{codes, All}
use Rattle.std.specs.List.{list_any}
use Rattle.std.proofs.lemmas.List.Elements.{All-nil, All-cons, All-head, All-tail, All-append}
use Rattle.sj_emit_expr_questions.specs.Calls.{own_call, calls_in, calls_in_all, calls_of, calls_of_all, calls_of_cases}
use Rattle.js_tree.specs.Rules.{IsBinding}
use Rattle.js_tree.specs.declared.items.Binding.{Binding}
use Rattle.sj_core.specs.Lookup.{Lookup}
use Rattle.sj_core.specs.Terms as core
use Rattle.sj_core.specs.declared.callees.Callee.{Callee}
use Rattle.sj_core.specs.declared.callees.Callee.TheVariants as callees
use Rattle.sj_emit_expr_spec.specs.Templates.{check_name, element_setter, is_nonzero_literal, called_member}
use Rattle.sj_emit_expr_spec.specs.Tests.{test_name, cast_name, same_name}
use Rattle.sj_emit_expr_spec.specs.Uses.{looked_up_uses, call_uses, object_binding, function_binding, class_use, static_use, setter_use, load_use, store_use, helper_of, test_uses, cast_uses, base_uses, type_uses, uses_in, uses_in_all, uses_of, uses_of_all, uses_of_cases, is_same_binding, once_each, uses}
use Rattle.sj_mangling.specs.Bindings.{class_binding, method_binding}
use Rattle.sj_mangling.specs.declared.bindings.ClassBinding.TheVariants.{Constants}
use Rattle.sj_mangling.specs.declared.bindings.MethodBinding.TheVariants.{Dispatch, Reflective}
use Rattle.sj_names.specs.declared.method_names.MethodName.{MethodName}
use Rattle.sj_names.specs.declared.references.BaseRef.{BaseRef}
use Rattle.sj_names.specs.declared.references.BaseRef.TheVariants as bases
use Rattle.sj_trees.specs.declared.operators.BinaryOp.{BinaryOp}
use Rattle.sj_trees.specs.declared.operators.BinaryOp.TheVariants.{StrictEqual, StrictNotEqual, IntDivide, IntRemainder, LongDivide, LongRemainder}
use Rattle.sj_trees.specs.declared.types.IrType.{IrType}
use Rattle.sj_trees.specs.declared.types.IrType.TheVariants.{Any, Class, Array}
use Rattle.sj_emit_expr_pieces.specs.Fits.{RunsFit}
use Rattle.sj_emit_expr_pieces.specs.Ranges.{FitsBase, FitsType, FitsMethodName, FitsCallee, FitsExpression, FitExpressions, FitsStatement, FitStatements, FitCases}
use Rattle.sj_emit_expr_pieces.proofs.Runs.{two, three, run-fits}
use Rattle.sj_emit_expr_pieces.proofs.Names.{member-named, method-named, class-named, constants-named, test-named, cast-named, static-named, setter-named, load-named, store-named, element-setter-named}

abbrev Named : List Binding → Type 0
Named bs = All IsBinding bs

none : Named []
none = All-nil IsBinding

after : (bs cs : List Binding) → Named bs → Named cs → Named (bs ++ cs)
after bs cs h k = All-append IsBinding bs cs h k

helper-named : (nonzero : Bool) (o : BinaryOp) → Named (helper_of nonzero o)
helper-named false IntDivide = All-cons IsBinding (object_binding (codes "$id")) [] refl none
helper-named false IntRemainder = All-cons IsBinding (object_binding (codes "$im")) [] refl none
helper-named false LongDivide = All-cons IsBinding (object_binding (codes "$ld")) [] refl none
helper-named false LongRemainder = All-cons IsBinding (object_binding (codes "$lm")) [] refl none
helper-named _ StrictEqual = All-cons IsBinding (object_binding same_name) [] refl none
helper-named _ StrictNotEqual = All-cons IsBinding (object_binding same_name) [] refl none
helper-named _ _ = none

test-uses-named : (t : IrType) → FitsType t → Named (test_uses t)
test-uses-named (Class c) h = All-cons IsBinding (record { owner = c; name = test_name (Class c) }) [] (test-named (Class c) h) none
test-uses-named t h = All-cons IsBinding (object_binding (test_name t)) [] (test-named t h) none

cast-uses-named : (t : IrType) → FitsType t → Named (cast_uses t)
cast-uses-named Any h = none
cast-uses-named (Class c) h = All-cons IsBinding (record { owner = c; name = cast_name (Class c) }) [] (cast-named (Class c) h) none
cast-uses-named t h = All-cons IsBinding (object_binding (cast_name t)) [] (cast-named t h) none

base-uses-named : (r : BaseRef) → FitsBase r → Named (base_uses r)
base-uses-named (bases.Class c) h = All-cons IsBinding (record { owner = c; name = class_binding Constants c }) [] (constants-named c h) none
base-uses-named _ h = none

type-uses-named : (t : IrType) → FitsType t → Named (type_uses t)
type-uses-named (Array r) h = base-uses-named r.base h.1
type-uses-named _ h = none

-- what calls name
looked-up-named : (mixed : Bool) (m : MethodName) → FitsMethodName m → Named (looked_up_uses mixed m)
looked-up-named true m h = All-cons IsBinding (object_binding (method_binding Dispatch m)) [] (method-named Dispatch m h) none
looked-up-named false m h = none

call-named : (known : Lookup) (k : Callee) → FitsCallee k → RunsFit known (own_call k) → Named (call_uses known k)
call-named known (callees.Member m) h f = All-cons IsBinding (function_binding (called_member known m.namespace m)) [] (member-named (called_member known m.namespace m) (run-fits known m.namespace m f h)) none
call-named known (callees.LookedUp c m) h f = looked-up-named (known.has_hijacked c) m h.1
call-named known (callees.OfArray m) h f = none
call-named known (callees.Reflective m) h f = All-cons IsBinding (object_binding (method_binding Reflective m)) [] (method-named Reflective m h) none

module _ (known : Lookup) where
  mutual
    in-named : (e : core.Expression) → FitsExpression e → RunsFit known (calls_in e) → Named (uses_in known e)
    in-named (core.boxed_char e) h f = All-cons IsBinding (object_binding (codes "$C")) (uses_in known e) refl (in-named e h f)
    in-named (core.char_text e) h f = in-named e h f
    in-named (core.value_text e) h f = in-named e h f
    in-named (core.choice_of c e g) h f = let p = three known (calls_in c) (calls_in e) (calls_in g) f in after (uses_in known c ++ uses_in known e) (uses_in known g) (after (uses_in known c) (uses_in known e) (in-named c h.0 p.0) (in-named e h.1 p.1)) (in-named g h.2 p.2)
    in-named (core.static_call m es) h f = All-cons IsBinding (function_binding m) (uses_in_all known es) (member-named m h.0) (all-named es h.1 f)
    in-named (core.field_of e c f) h g = in-named e h.0 g
    in-named (core.static_of c f) h g = All-cons IsBinding (static_use c f) [] (static-named c f h.0 h.1) none
    in-named (core.module_of c) h g = All-cons IsBinding (load_use c) [] (load-named c h) none
    in-named (core.checked_value e) h f = All-cons IsBinding (object_binding check_name) (uses_in known e) refl (in-named e h f)
    in-named (core.made_of m es) h f = All-cons IsBinding (function_binding m) (class_use m.class ∷ uses_in_all known es) (member-named m h.0) (All-cons IsBinding (class_use m.class) (uses_in_all known es) (class-named m.class h.0.0) (all-named es h.1 f))
    in-named (core.receiver_call k e es) h f = let p = three known (calls_in e) (calls_in_all es) (own_call k) f in after (call_uses known k ++ uses_in known e) (uses_in_all known es) (after (call_uses known k) (uses_in known e) (call-named known k h.0 p.2) (in-named e h.1 p.0)) (all-named es h.2 p.1)
    in-named (core.test_of t e) h f = after (test_uses t ++ uses_in known e) (type_uses t) (after (test_uses t) (uses_in known e) (test-uses-named t h.0) (in-named e h.1 f)) (type-uses-named t h.0)
    in-named (core.cast_of t e) h f = after (cast_uses t ++ uses_in known e) (type_uses t) (after (cast_uses t) (uses_in known e) (cast-uses-named t h.0) (in-named e h.1 f)) (type-uses-named t h.0)
    in-named (core.new_array_of r e) h f = All-cons IsBinding (object_binding (codes "$mk")) (base_uses r.base ++ uses_in known e) refl (after (base_uses r.base) (uses_in known e) (base-uses-named r.base h.0.1) (in-named e h.1 f))
    in-named (core.array_of r es) h f = All-cons IsBinding (object_binding (codes "$A")) (base_uses r.base ++ uses_in_all known es) refl (after (base_uses r.base) (uses_in_all known es) (base-uses-named r.base h.0.1) (all-named es h.1 f))
    in-named (core.length_of e) h f = in-named e h f
    in-named (core.element_of e i) h f = let p = two known (calls_in e) (calls_in i) f in All-cons IsBinding (object_binding (codes "$get")) (uses_in known e ++ uses_in known i) refl (after (uses_in known e) (uses_in known i) (in-named e h.0 p.0) (in-named i h.1 p.1))
    in-named (core.unary_of o e) h f = in-named e h f
    in-named (core.binary_of o e g) h f = let p = two known (calls_in e) (calls_in g) f in after (helper_of (is_nonzero_literal g) o ++ uses_in known e) (uses_in known g) (after (helper_of (is_nonzero_literal g) o) (uses_in known e) (helper-named (is_nonzero_literal g) o) (in-named e h.0 p.0)) (in-named g h.1 p.1)
    in-named _ h f = none

    all-named : (es : core.Expressions) → FitExpressions es → RunsFit known (calls_in_all es) → Named (uses_in_all known es)
    all-named core.no_expressions h f = none
    all-named (core.expression e es) h f = let p = two known (calls_in e) (calls_in_all es) f in after (uses_in known e) (uses_in_all known es) (in-named e h.0 p.0) (all-named es h.1 p.1)

  mutual
    of-named : (s : core.Statement) → FitsStatement s → RunsFit known (calls_of s) → Named (uses_of known s)
    of-named (core.constant_of p x e) h f = in-named e h.1 f
    of-named (core.define_of p x e) h f = in-named e h.1 f
    of-named (core.declare_of p x) h f = none
    of-named (core.assign_to p x e) h f = in-named e h.1 f
    of-named (core.evaluate_of p e) h f = in-named e h f
    of-named (core.return_of p e) h f = in-named e h f
    of-named (core.log_of p e) h f = in-named e h f
    of-named (core.assign_field p e c x g) h f = let q = two known (calls_in e) (calls_in g) f in after (uses_in known e) (uses_in known g) (in-named e h.0 q.0) (in-named g h.3 q.1)
    of-named (core.assign_static p c x e) h f = All-cons IsBinding (setter_use c x) (uses_in known e) (setter-named c x h.0 h.1) (in-named e h.2 f)
    of-named (core.assign_element p t e i g) h f = let q = three known (calls_in e) (calls_in i) (calls_in g) f in All-cons IsBinding (object_binding (element_setter t)) (uses_in known e ++ uses_in known i ++ uses_in known g) (element-setter-named t) (after (uses_in known e ++ uses_in known i) (uses_in known g) (after (uses_in known e) (uses_in known i) (in-named e h.0 q.0) (in-named i h.1 q.1)) (in-named g h.2 q.2))
    of-named (core.store_module_of p c e) h f = All-cons IsBinding (store_use c) (uses_in known e) (store-named c h.0) (in-named e h.1 f)
    of-named (core.throw_of p e) h f = in-named e h f
    of-named (core.leave_label p l) h f = none
    of-named (core.break_nearest p) h f = none
    of-named (core.if_of p c ss ts) h f = let q = three known (calls_in c) (calls_of_all ss) (calls_of_all ts) f in after (uses_in known c ++ uses_of_all known ss) (uses_of_all known ts) (after (uses_in known c) (uses_of_all known ss) (in-named c h.0 q.0) (of-all-named ss h.1 q.1)) (of-all-named ts h.2 q.2)
    of-named (core.while_of p c ss) h f = let q = two known (calls_in c) (calls_of_all ss) f in after (uses_in known c) (uses_of_all known ss) (in-named c h.0 q.0) (of-all-named ss h.1 q.1)
    of-named (core.loop_of p ss) h f = of-all-named ss h f
    of-named (core.labeled_of p l ss) h f = of-all-named ss h.1 f
    of-named (core.try_of p ss x ts) h f = let q = two known (calls_of_all ss) (calls_of_all ts) f in after (uses_of_all known ss) (uses_of_all known ts) (of-all-named ss h.0 q.0) (of-all-named ts h.2 q.1)
    of-named (core.finally_of p ss ts) h f = let q = two known (calls_of_all ss) (calls_of_all ts) f in after (uses_of_all known ss) (uses_of_all known ts) (of-all-named ss h.0 q.0) (of-all-named ts h.1 q.1)
    of-named (core.switch_of p e cs ss) h f = let q = three known (calls_in e) (calls_of_cases cs) (calls_of_all ss) f in after (uses_in known e ++ uses_of_cases known cs) (uses_of_all known ss) (after (uses_in known e) (uses_of_cases known cs) (in-named e h.0 q.0) (cases-named cs h.1 q.1)) (of-all-named ss h.2 q.2)

    of-all-named : (ss : core.Statements) → FitStatements ss → RunsFit known (calls_of_all ss) → Named (uses_of_all known ss)
    of-all-named core.no_statements h f = none
    of-all-named (core.statement s ss) h f = let q = two known (calls_of s) (calls_of_all ss) f in after (uses_of known s) (uses_of_all known ss) (of-named s h.0 q.0) (of-all-named ss h.1 q.1)

    cases-named : (cs : core.Cases) → FitCases cs → RunsFit known (calls_of_cases cs) → Named (uses_of_cases known cs)
    cases-named core.no_cases h f = none
    cases-named (core.switch_case ks ss cs) h f = let q = two known (calls_of_all ss) (calls_of_cases cs) f in after (uses_of_all known ss) (uses_of_cases known cs) (of-all-named ss h.1 q.0) (cases-named cs h.2 q.1)

either-named : (there : Bool) (bs cs : List Binding) → Named bs → Named cs → Named (if there then bs else cs)
either-named true bs cs h k = h
either-named false bs cs h k = k

once-named : (seen bs : List Binding) → Named bs → Named (once_each seen bs)
once-named seen [] h = none
once-named seen (b ∷ bs) h =
    let rest : Named bs = All-tail IsBinding b bs h in
    either-named (list_any (is_same_binding b) seen) (once_each seen bs) (b ∷ once_each (b ∷ seen) bs) (once-named seen bs rest) (All-cons IsBinding b (once_each (b ∷ seen) bs) (All-head IsBinding b bs h) (once-named (b ∷ seen) bs rest))

pub uses-named : (known : Lookup) (ss : core.Statements) → FitStatements ss → RunsFit known (calls_of_all ss) → Named (uses known ss)
uses-named known ss h f = once-named [] (uses_of_all known ss) (of-all-named known ss h f)

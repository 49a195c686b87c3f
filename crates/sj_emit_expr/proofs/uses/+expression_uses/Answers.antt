use Rattle.std.proofs.Common.{◌≡◌, ◌∙◌, [], ◌∷◌, ◌++◌, codes, ap, sym, refl}
use Rattle.sj_core.specs.Terms.{Expression, choice_of, receiver_call, test_of, cast_of, element_of, binary_of}
use Rattle.sj_core.specs.Views.{expression_view, expressions_view, expression_step}
use Rattle.sj_core.specs.declared.expressions.CoreExpression.TheFolds.{fold-roll-CoreExpression}
use Rattle.sj_core.specs.declared.expressions.CoreExpression.TheOpen.{CoreExpression-F}
use Rattle.sj_core.specs.declared.expressions.CoreExpression.TheVariants.{rolls-Choice, rolls-ReceiverCall, rolls-Test, rolls-Cast, rolls-Element, rolls-Binary}
use Rattle.sj_emit_expr_spec.specs.Uses.{object_binding, uses_in, uses_in_all, call_uses, helper_of, test_uses, cast_uses, type_uses}
use Rattle.sj_emit_expr.proofs.Collected.{more-uses}
use Rattle.sj_emit_expr.proofs.uses.+expression_uses.Goals as goal
use Rattle.sj_emit_expr.specs.Collecting.{with_use}
use Rattle.sj_emit_expr_parts.specs.Known.{lookup_of}

pub add_uses_in-returns-in_ok-add_uses_in-in-Choice-2 : goal.add_uses_in-returns-in_ok-add_uses_in-in-Choice-2
add_uses_in-returns-in_ok-add_uses_in-in-Choice-2 t c =
    let n = c.in-Choice in
    let v : expression_view c.args.expression.now ≡ choice_of (expression_view n.test.value) (expression_view n.yes.value) (expression_view n.no.value) = ap expression_view (n.is ∙ sym (rolls-Choice n.test n.yes n.no)) ∙ fold-roll-CoreExpression Expression expression_step (CoreExpression-F.Choice n.test n.yes n.no) in
    let first = uses_in (lookup_of c.args.known.now) (expression_view c.deref-in-Choice.result.now) in
    let second = uses_in (lookup_of c.args.known.now) (expression_view c.deref-in-Choice-2.result.now) in
    let third = uses_in (lookup_of c.args.known.now) (expression_view c.deref-in-Choice-3.result.now) in
    let parts : first ++ second ++ third ≡ uses_in (lookup_of c.args.known.now) (expression_view c.args.expression.now) = rw (v, ← c.deref-in-Choice.ensures, ← c.deref-in-Choice-2.ensures, ← c.deref-in-Choice-3.ensures) refl in
    rw (← more-uses _ _ (first ++ second) third _ (c.in_ok-add_uses_in-in-Choice-2.ensures ∙ more-uses _ _ first second (first ++ second) c.in_ok-add_uses_in-in-Choice.ensures refl) parts) c.add_uses_in-in-Choice-3.ensures

pub add_uses_in-returns-in_ok-add_uses_in-in-Binary : goal.add_uses_in-returns-in_ok-add_uses_in-in-Binary
add_uses_in-returns-in_ok-add_uses_in-in-Binary t c =
    let n = c.in-Binary in
    let v : expression_view c.args.expression.now ≡ binary_of n.op (expression_view n.left.value) (expression_view n.right.value) = ap expression_view (n.is ∙ sym (rolls-Binary n.op n.left n.right)) ∙ fold-roll-CoreExpression Expression expression_step (CoreExpression-F.Binary n.op n.left n.right) in
    let first = helper_of c.is_nonzero_literal.result n.op in
    let second = uses_in (lookup_of c.args.known.now) (expression_view c.deref-in-Binary-2.result.now) in
    let third = uses_in (lookup_of c.args.known.now) (expression_view c.deref-in-Binary-3.result.now) in
    let parts : first ++ second ++ third ≡ uses_in (lookup_of c.args.known.now) (expression_view c.args.expression.now) = rw (v, c.is_nonzero_literal.ensures, c.deref-in-Binary.ensures, c.deref-in-Binary-2.ensures, c.deref-in-Binary-3.ensures) refl in
    rw (← more-uses _ _ (first ++ second) third _ (c.in_ok-add_uses_in-in-Binary.ensures ∙ more-uses _ _ first second (first ++ second) c.in_ok-add_helper-in-Binary.ensures refl) parts) c.add_uses_in-in-Binary-2.ensures

pub add_uses_in-returns-in_ok-add_uses_in-in-ReceiverCall : goal.add_uses_in-returns-in_ok-add_uses_in-in-ReceiverCall
add_uses_in-returns-in_ok-add_uses_in-in-ReceiverCall t c =
    let n = c.in-ReceiverCall in
    let v : expression_view c.args.expression.now ≡ receiver_call n.callee (expression_view n.receiver.value) (expressions_view n.arguments.items) = ap expression_view (n.is ∙ sym (rolls-ReceiverCall n.callee n.receiver n.arguments)) ∙ fold-roll-CoreExpression Expression expression_step (CoreExpression-F.ReceiverCall n.callee n.receiver n.arguments) in
    let first = call_uses (lookup_of c.args.known.now) n.callee in
    let second = uses_in (lookup_of c.args.known.now) (expression_view c.deref-in-ReceiverCall.result.now) in
    let third = uses_in_all (lookup_of c.args.known.now) (expressions_view c.deref-in-ReceiverCall-2.result.now) in
    let parts : first ++ second ++ third ≡ uses_in (lookup_of c.args.known.now) (expression_view c.args.expression.now) = rw (v, c.deref-in-ReceiverCall.ensures, c.deref-in-ReceiverCall-2.ensures.value) refl in
    rw (← more-uses _ _ (first ++ second) third _ (c.in_ok-add_uses_in-in-ReceiverCall.ensures ∙ more-uses _ _ first second (first ++ second) c.in_ok-add_call-in-ReceiverCall.ensures refl) parts) c.add_all_uses_in-in-ReceiverCall.ensures

pub add_uses_in-returns-in_ok-add_uses_in-in-Test : goal.add_uses_in-returns-in_ok-add_uses_in-in-Test
add_uses_in-returns-in_ok-add_uses_in-in-Test t c =
    let n = c.in-Test in
    let v : expression_view c.args.expression.now ≡ test_of n.tpe (expression_view n.operand.value) = ap expression_view (n.is ∙ sym (rolls-Test n.tpe n.operand)) ∙ fold-roll-CoreExpression Expression expression_step (CoreExpression-F.Test n.tpe n.operand) in
    let first = test_uses n.tpe in
    let second = uses_in (lookup_of c.args.known.now) (expression_view c.deref-in-Test.result.now) in
    let third = type_uses n.tpe in
    let parts : first ++ second ++ third ≡ uses_in (lookup_of c.args.known.now) (expression_view c.args.expression.now) = rw (v, c.deref-in-Test.ensures) refl in
    rw (← more-uses _ _ (first ++ second) third _ (c.in_ok-add_uses_in-in-Test.ensures ∙ more-uses _ _ first second (first ++ second) c.in_ok-add_test-in-Test.ensures refl) parts) c.add_type.ensures

pub add_uses_in-returns-in_ok-add_uses_in-in-Cast : goal.add_uses_in-returns-in_ok-add_uses_in-in-Cast
add_uses_in-returns-in_ok-add_uses_in-in-Cast t c =
    let n = c.in-Cast in
    let v : expression_view c.args.expression.now ≡ cast_of n.tpe (expression_view n.operand.value) = ap expression_view (n.is ∙ sym (rolls-Cast n.tpe n.operand)) ∙ fold-roll-CoreExpression Expression expression_step (CoreExpression-F.Cast n.tpe n.operand) in
    let first = cast_uses n.tpe in
    let second = uses_in (lookup_of c.args.known.now) (expression_view c.deref-in-Cast.result.now) in
    let third = type_uses n.tpe in
    let parts : first ++ second ++ third ≡ uses_in (lookup_of c.args.known.now) (expression_view c.args.expression.now) = rw (v, c.deref-in-Cast.ensures) refl in
    rw (← more-uses _ _ (first ++ second) third _ (c.in_ok-add_uses_in-in-Cast.ensures ∙ more-uses _ _ first second (first ++ second) c.in_ok-add_cast-in-Cast.ensures refl) parts) c.add_type-in-Cast.ensures

pub add_uses_in-returns-in_ok-add_uses_in-in-Element : goal.add_uses_in-returns-in_ok-add_uses_in-in-Element
add_uses_in-returns-in_ok-add_uses_in-in-Element t c =
    let n = c.in-Element in
    let v : expression_view c.args.expression.now ≡ element_of (expression_view n.array.value) (expression_view n.index.value) = ap expression_view (n.is ∙ sym (rolls-Element n.array n.index)) ∙ fold-roll-CoreExpression Expression expression_step (CoreExpression-F.Element n.array n.index) in
    let first = object_binding (codes "$get") ∷ [] in
    let second = uses_in (lookup_of c.args.known.now) (expression_view c.deref-in-Element.result.now) in
    let third = uses_in (lookup_of c.args.known.now) (expression_view c.deref-in-Element-2.result.now) in
    let parts : first ++ second ++ third ≡ uses_in (lookup_of c.args.known.now) (expression_view c.args.expression.now) = rw (v, c.deref-in-Element.ensures, c.deref-in-Element-2.ensures) refl in
    let added : c.add-in-Element.new.bindings.items ≡ with_use c.args.bindings.now.items (object_binding (codes "$get")) = c.in_ok-add-in-Element.ensures ∙ ap (with_use c.args.bindings.now.items) c.in_ok-object_binding-in-Element.ensures in
    let b = c.args.bindings.now.items in
    rw (← more-uses b c.add_uses_in-in-Element.new.bindings.items (first ++ second) third (uses_in (lookup_of c.args.known.now) (expression_view c.args.expression.now)) (c.in_ok-add_uses_in-in-Element.ensures ∙ more-uses b c.add-in-Element.new.bindings.items first second (first ++ second) added refl) parts) c.add_uses_in-in-Element-2.ensures

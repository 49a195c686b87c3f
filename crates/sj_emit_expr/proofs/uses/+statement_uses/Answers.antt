use Rattle.std.proofs.Common.{◌≡◌, ◌∙◌, [], ◌∷◌, ◌++◌, ap, sym, refl}
use Rattle.sj_core.specs.Terms.{Statement, assign_field, assign_element, if_of, while_of, switch_of, try_of, finally_of}
use Rattle.sj_core.specs.Views.{variable_view, expression_view, statement_view, statements_view, cases_view, statement_step, case_step, Case}
use Rattle.sj_core.specs.declared.statements.CoreStatement.TheFolds.{fold-roll-CoreStatement}
use Rattle.sj_core.specs.declared.statements.CoreStatement.TheOpen.{CoreStatement-F}
use Rattle.sj_core.specs.declared.statements.CoreStatement.TheVariants.{rolls-AssignField, rolls-AssignElement, rolls-If, rolls-While, rolls-Switch, rolls-Try, rolls-Finally}
use Rattle.sj_emit_expr_spec.specs.Templates.{element_setter}
use Rattle.sj_emit_expr_spec.specs.Uses.{object_binding, uses_in, uses_of, uses_of_all, uses_of_cases}
use Rattle.sj_emit_expr.proofs.Collected.{more-uses, case-step}
use Rattle.sj_emit_expr.proofs.uses.+statement_uses.Goals as goal
use Rattle.sj_emit_expr.specs.Collecting.{with_use, with_uses}
use Rattle.sj_emit_expr_parts.specs.Known.{lookup_of}

pub add_uses_of-returns-in_ok-add_uses_of_all-in-If : goal.add_uses_of-returns-in_ok-add_uses_of_all-in-If
add_uses_of-returns-in_ok-add_uses_of_all-in-If t c =
    let n = c.in-If in
    let v : statement_view c.args.statement.now ≡ if_of n.position (expression_view n.test) (statements_view n.yes.items) (statements_view n.no.items) = ap statement_view (n.is ∙ sym (rolls-If n.position n.test n.yes n.no)) ∙ fold-roll-CoreStatement Statement Case statement_step case_step (CoreStatement-F.If n.position n.test n.yes n.no) in
    let first = uses_in (lookup_of c.args.known.now) (expression_view n.test) in
    let second = uses_of_all (lookup_of c.args.known.now) (statements_view c.deref.result.now) in
    let third = uses_of_all (lookup_of c.args.known.now) (statements_view c.deref-in-If.result.now) in
    let parts : first ++ second ++ third ≡ uses_of (lookup_of c.args.known.now) (statement_view c.args.statement.now) = rw (v, c.deref.ensures.value, c.deref-in-If.ensures.value) refl in
    rw (← more-uses _ _ (first ++ second) third _ (c.in_ok-add_uses_of_all-in-If.ensures ∙ more-uses _ _ first second (first ++ second) c.in_ok-add_uses_in-in-If.ensures refl) parts) c.add_uses_of_all-in-If.ensures

pub add_uses_of-returns-in_ok-add_uses_in-in-While : goal.add_uses_of-returns-in_ok-add_uses_in-in-While
add_uses_of-returns-in_ok-add_uses_in-in-While t c =
    let n = c.in-While in
    let v : statement_view c.args.statement.now ≡ while_of n.position (expression_view n.test) (statements_view n.body.items) = ap statement_view (n.is ∙ sym (rolls-While n.position n.test n.body)) ∙ fold-roll-CoreStatement Statement Case statement_step case_step (CoreStatement-F.While n.position n.test n.body) in
    let first = uses_in (lookup_of c.args.known.now) (expression_view n.test) in
    let second = uses_of_all (lookup_of c.args.known.now) (statements_view c.deref-in-While.result.now) in
    let parts : first ++ second ≡ uses_of (lookup_of c.args.known.now) (statement_view c.args.statement.now) = rw (v, c.deref-in-While.ensures.value) refl in
    rw (← more-uses _ _ first second _ c.in_ok-add_uses_in-in-While.ensures parts) c.add_uses_of_all-in-While.ensures

pub add_uses_of-returns-in_ok-add_uses_of_cases-in-Switch : goal.add_uses_of-returns-in_ok-add_uses_of_cases-in-Switch
add_uses_of-returns-in_ok-add_uses_of_cases-in-Switch t c =
    let n = c.in-Switch in
    let v : statement_view c.args.statement.now ≡ switch_of n.position (expression_view n.selector) (cases_view n.cases.items) (statements_view n.default.items) = ap statement_view (n.is ∙ sym (rolls-Switch n.position n.selector n.cases n.default)) ∙ fold-roll-CoreStatement Statement Case statement_step case_step (CoreStatement-F.Switch n.position n.selector n.cases n.default) in
    let first = uses_in (lookup_of c.args.known.now) (expression_view n.selector) in
    let second = uses_of_cases (lookup_of c.args.known.now) (cases_view c.deref-in-Switch.result.now) in
    let third = uses_of_all (lookup_of c.args.known.now) (statements_view c.deref-in-Switch-2.result.now) in
    let parts : first ++ second ++ third ≡ uses_of (lookup_of c.args.known.now) (statement_view c.args.statement.now) = rw (v, c.deref-in-Switch.ensures.value, c.deref-in-Switch-2.ensures.value) refl in
    rw (← more-uses _ _ (first ++ second) third _ (c.in_ok-add_uses_of_cases-in-Switch.ensures ∙ more-uses _ _ first second (first ++ second) c.in_ok-add_uses_in-in-Switch.ensures refl) parts) c.add_uses_of_all-in-Switch.ensures

pub add_uses_of_cases-loop-each-preserved : goal.add_uses_of_cases-loop-each-preserved
add_uses_of_cases-loop-each-preserved t c = case-step (lookup_of c.args.known.now) c.args.cases.now c.loop-each.each-index c.each-item.result _ _ c.loop-each-test.true c.each-item.is c.in_ok-add_uses_of_case.ensures ∙ c.loop-each.invariant

pub add_uses_of-returns-in_ok-add_uses_in-in-AssignField : goal.add_uses_of-returns-in_ok-add_uses_in-in-AssignField
add_uses_of-returns-in_ok-add_uses_in-in-AssignField t c =
    let n = c.in-AssignField in
    let v : statement_view c.args.statement.now ≡ assign_field n.position (expression_view n.object) n.class n.field (expression_view n.value) = ap statement_view (n.is ∙ sym (rolls-AssignField n.position n.object n.class n.field n.value)) ∙ fold-roll-CoreStatement Statement Case statement_step case_step (CoreStatement-F.AssignField n.position n.object n.class n.field n.value) in
    let first = uses_in (lookup_of c.args.known.now) (expression_view n.object) in
    let second = uses_in (lookup_of c.args.known.now) (expression_view n.value) in
    let parts : first ++ second ≡ uses_of (lookup_of c.args.known.now) (statement_view c.args.statement.now) = rw (v) refl in
    rw (← more-uses _ _ first second _ c.in_ok-add_uses_in-in-AssignField.ensures parts) c.add_uses_in-in-AssignField.ensures

pub add_uses_of-returns-in_ok-add_uses_of_all-in-Try : goal.add_uses_of-returns-in_ok-add_uses_of_all-in-Try
add_uses_of-returns-in_ok-add_uses_of_all-in-Try t c =
    let n = c.in-Try in
    let v : statement_view c.args.statement.now ≡ try_of n.position (statements_view n.block.items) (variable_view n.variable) (statements_view n.handler.items) = ap statement_view (n.is ∙ sym (rolls-Try n.position n.block n.variable n.handler)) ∙ fold-roll-CoreStatement Statement Case statement_step case_step (CoreStatement-F.Try n.position n.block n.variable n.handler) in
    let first = uses_of_all (lookup_of c.args.known.now) (statements_view c.deref-in-Try.result.now) in
    let second = uses_of_all (lookup_of c.args.known.now) (statements_view c.deref-in-Try-2.result.now) in
    let parts : first ++ second ≡ uses_of (lookup_of c.args.known.now) (statement_view c.args.statement.now) = rw (v, c.deref-in-Try.ensures.value, c.deref-in-Try-2.ensures.value) refl in
    rw (← more-uses _ _ first second _ c.in_ok-add_uses_of_all-in-Try.ensures parts) c.add_uses_of_all-in-Try-2.ensures

pub add_uses_of-returns-in_ok-add_uses_of_all-in-Finally : goal.add_uses_of-returns-in_ok-add_uses_of_all-in-Finally
add_uses_of-returns-in_ok-add_uses_of_all-in-Finally t c =
    let n = c.in-Finally in
    let v : statement_view c.args.statement.now ≡ finally_of n.position (statements_view n.block.items) (statements_view n.finalizer.items) = ap statement_view (n.is ∙ sym (rolls-Finally n.position n.block n.finalizer)) ∙ fold-roll-CoreStatement Statement Case statement_step case_step (CoreStatement-F.Finally n.position n.block n.finalizer) in
    let first = uses_of_all (lookup_of c.args.known.now) (statements_view c.deref-in-Finally.result.now) in
    let second = uses_of_all (lookup_of c.args.known.now) (statements_view c.deref-in-Finally-2.result.now) in
    let parts : first ++ second ≡ uses_of (lookup_of c.args.known.now) (statement_view c.args.statement.now) = rw (v, c.deref-in-Finally.ensures.value, c.deref-in-Finally-2.ensures.value) refl in
    rw (← more-uses _ _ first second _ c.in_ok-add_uses_of_all-in-Finally.ensures parts) c.add_uses_of_all-in-Finally-2.ensures

pub add_uses_of-returns-in_ok-add_uses_in-in-AssignElement-2 : goal.add_uses_of-returns-in_ok-add_uses_in-in-AssignElement-2
add_uses_of-returns-in_ok-add_uses_in-in-AssignElement-2 t c =
    let n = c.in-AssignElement in
    let v : statement_view c.args.statement.now ≡ assign_element n.position n.tpe (expression_view n.array) (expression_view n.index) (expression_view n.value) = ap statement_view (n.is ∙ sym (rolls-AssignElement n.position n.tpe n.array n.index n.value)) ∙ fold-roll-CoreStatement Statement Case statement_step case_step (CoreStatement-F.AssignElement n.position n.tpe n.array n.index n.value) in
    let setter = object_binding (element_setter n.tpe) ∷ [] in
    let first = uses_in (lookup_of c.args.known.now) (expression_view n.array) in
    let second = uses_in (lookup_of c.args.known.now) (expression_view n.index) in
    let third = uses_in (lookup_of c.args.known.now) (expression_view n.value) in
    let parts : setter ++ first ++ second ++ third ≡ uses_of (lookup_of c.args.known.now) (statement_view c.args.statement.now) = rw v refl in
    let added : c.add-in-AssignElement.new.bindings.items ≡ with_use c.args.bindings.now.items (object_binding (element_setter n.tpe)) = c.in_ok-add-in-AssignElement.ensures ∙ ap (with_use c.args.bindings.now.items) (c.in_ok-helper_binding-in-AssignElement.ensures ∙ ap object_binding c.in_ok-element_setter-in-AssignElement.ensures) in
    let b = c.args.bindings.now.items in
    let before : c.add_uses_in-in-AssignElement.new.bindings.items ≡ with_uses b (setter ++ first) = c.in_ok-add_uses_in-in-AssignElement.ensures ∙ more-uses b c.add-in-AssignElement.new.bindings.items setter first (setter ++ first) added refl in
    rw (← more-uses b c.add_uses_in-in-AssignElement-2.new.bindings.items (setter ++ first ++ second) third (uses_of (lookup_of c.args.known.now) (statement_view c.args.statement.now)) (c.in_ok-add_uses_in-in-AssignElement-2.ensures ∙ more-uses b c.add_uses_in-in-AssignElement.new.bindings.items (setter ++ first) second (setter ++ first ++ second) before refl) parts) c.add_uses_in-in-AssignElement-3.ensures

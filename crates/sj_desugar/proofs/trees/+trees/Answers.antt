use Rattle.std.proofs.Common.{◌≡◌, ◌∙◌, suc, ◌+◌, ◌<◌, ◌&&◌, ◌++◌, ◌∷◌, [], ap, sym, subst, map, drop, length, Bool, true, false, refl, None, Some, IfOk, arith}
use Rattle.std.proofs.lemmas.Bool.Decides.{nat_tests}
use Rattle.std.proofs.lemmas.List.{map_push}
use Rattle.sj_core.specs.Terms as core
use Rattle.sj_core.specs.Terms.{named, assign_to, followed, statement, no_statements, break_nearest}
use Rattle.sj_core.specs.Views.{expression_view, case_view, variable_view}
use Rattle.sj_core.specs.Views.{expressions_of}
use Rattle.sj_core.specs.declared.callees.Callee.TheVariants as callees
use Rattle.sj_desugar_spec.specs.Coercions.{coerced, coerced_receiver}
use Rattle.sj_desugar_spec.specs.Desugar.{into, finished, target_of, break_unless, callee_of, cases, finish, member, operands, position_of, types_of}
use Rattle.sj_desugar_spec.specs.Finalizers.{kept, keep_all, give_all_back}
use Rattle.sj_desugar_spec.specs.Plain.{is_among, is_plain, are_plain}
use Rattle.sj_desugar_spec.specs.Spill.{Code, discard, joined, one, put_first, spill, then_use, to_variable}
use Rattle.sj_desugar_spec.specs.Texts.{operand_of}
use Rattle.sj_desugar_forms.specs.Arguments.{coerced_argument, with_arguments, with_items}
use Rattle.sj_desugar_forms.specs.Forms.{behind, for_last}
use Rattle.sj_desugar.proofs.Rows.{declared-joins, assignment-joins, new-array-joins, items-joins, length-joins, element-joins, if-joins, try-joins, finally-joins, log-joins, test-joins, cast-joins, unary-joins, binary-joins, match-joins, turn-joins, loop-joins, received-sure, received-checked, checked-brought, receive-joins, field-joins, throw-joins, store-joins}
use Rattle.sj_desugar.proofs.Runs.{slice-rest, block-step, arguments-step, items-step, cases-take}
use Rattle.sj_desugar.proofs.trees.+trees.Goals as goal
use Rattle.sj_desugar.specs.Operands.{comes_to, comes_received, owner_place, index_place, assigned_code}
use Rattle.sj_desugar_forms.specs.Views.{destination_view, target_view, code_view, placed_view, all_view, branches_view}
use Rattle.sj_trees.proofs.trees.Tree.TheLaws.{the_size}
use Rattle.sj_desugar_forms.specs.Placing.{brought}
use Rattle.sj_trees.specs.declared.types.IrType.TheVariants.{Any, Boolean}
use Rattle.sj_trees.specs.Types.{class_type}
use Rattle.sj_trees.specs.Term.{Term, var_def, select, select_static, apply, apply_statically, throw, store_module, var_ref, assign, if_then, while_loop, do_while, try_catch, try_finally, match_on, unary_op, binary_op, new_array, array_value, array_length, array_select, is_instance_of, as_instance_of, log_line}
use Rattle.sj_trees.specs.TypeOf.{type_of_term, binary_result}
use Rattle.sj_trees.specs.View.{view, terms_view, cases_view, view_case, view_step, case_step, Case}
use Rattle.sj_trees.specs.declared.trees.Tree.{Tree}
use Rattle.sj_trees.specs.declared.trees.Tree.TheFolds.{fold-roll-Tree, fold_out-MatchCase}
use Rattle.sj_trees.specs.declared.trees.Tree.TheOpen.{Tree-F}
use Rattle.sj_trees.specs.declared.trees.Tree.TheViews.{sized-Match}
use Rattle.sj_trees.specs.declared.trees.Tree.TheVariants.{rolls-VarDef, rolls-Assign, rolls-Select, rolls-SelectStatic, rolls-Apply, rolls-ApplyStatically, rolls-Throw, rolls-StoreModule, rolls-VarRef, rolls-If, rolls-TryCatch, rolls-TryFinally, rolls-While, rolls-DoWhile, rolls-Match, rolls-UnaryOp, rolls-BinaryOp, rolls-NewArray, rolls-ArrayValue, rolls-ArrayLength, rolls-ArraySelect, rolls-IsInstanceOf, rolls-AsInstanceOf, rolls-Log}

pub statements_of-returns-in-If : goal.statements_of-returns-in-If
statements_of-returns-in-If t c =
    let n = c.in-If in
    let a = c.args in
    let m = is_among a.locals.now.mutable.now in
    let s = is_among a.locals.now.sure.now in
    let ls = map target_view a.targets.now in
    let k = destination_view a.destination.now in
    let v : view a.tree.now ≡ if_then n.position (view n.condition.value) (view n.yes.value) (view n.no.value) n.tpe = ap view (n.is ∙ sym (rolls-If n.position n.condition n.yes n.no n.tpe)) ∙ fold-roll-Tree Term Case view_step case_step (Tree-F.If n.position n.condition n.yes n.no n.tpe) in
    let e_test : placed_view c.in_ok-test-in-If.test ≡ comes_to m s ls true a.next (view n.condition.value) = subst (λ (x : Tree). placed_view c.in_ok-test-in-If.test ≡ comes_to m s ls true a.next (view x)) c.deref-in-If.ensures c.in_ok-test-in-If.ensures in
    let e_first : code_view c.in_ok-first-in-If.first ≡ into m s ls k c.in_ok-test-in-If.test.next (view n.yes.value) = subst (λ (x : Tree). code_view c.in_ok-first-in-If.first ≡ into m s ls k c.in_ok-test-in-If.test.next (view x)) c.deref-in-If-2.ensures c.in_ok-first-in-If.ensures in
    let e_second : code_view c.in_ok-second-in-If.second ≡ into m s ls k c.in_ok-first-in-If.first.next (view n.no.value) = subst (λ (x : Tree). code_view c.in_ok-second-in-If.second ≡ into m s ls k c.in_ok-first-in-If.first.next (view x)) c.deref-in-If-3.ensures c.in_ok-second-in-If.ensures in
    subst (λ x. IfOk c.branched.result (λ w. code_view w ≡ x)) (sym (ap (into m s ls k a.next) v ∙ if-joins m s ls k a.next n.position (placed_view c.in_ok-test-in-If.test) (code_view c.in_ok-first-in-If.first) (code_view c.in_ok-second-in-If.second) (view n.condition.value) (view n.yes.value) (view n.no.value) n.tpe e_test e_first e_second)) c.branched.ensures

pub statements_of-returns-in-VarDef : goal.statements_of-returns-in-VarDef
statements_of-returns-in-VarDef t c =
    let n = c.in-VarDef in
    let a = c.args in
    let m = is_among a.locals.now.mutable.now in
    let s = is_among a.locals.now.sure.now in
    let ls = map target_view a.targets.now in
    let k = destination_view a.destination.now in
    let v : view a.tree.now ≡ var_def n.position n.name n.tpe n.mutable (view n.value.value) = ap view (n.is ∙ sym (rolls-VarDef n.position n.name n.tpe n.mutable n.value)) ∙ fold-roll-Tree Term Case view_step case_step (Tree-F.VarDef n.position n.name n.tpe n.mutable n.value) in
    let simple : c.is_plain-simple.result ≡ is_plain (view n.value.value) = subst (λ (x : Tree). c.is_plain-simple.result ≡ is_plain (view x)) c.deref.ensures c.is_plain-simple.ensures in
    let d = destination_view c.in_ok-local-in-VarDef.local in
    let code = code_view c.in_ok-value_code-in-VarDef.value_code in
    let e_value : code ≡ into m s ls d a.next (view n.value.value) = subst (λ (x : Tree). code ≡ into m s ls d a.next (view x)) c.deref-else-simple.ensures c.in_ok-value_code-in-VarDef.ensures in
    subst (λ x. IfOk c.declared.result (λ w. code_view w ≡ x)) (sym (ap (into m s ls k a.next) v ∙ declared-joins m s ls k a.next n.position d code n.name n.tpe n.mutable (view n.value.value) (sym simple ∙ c.if-simple.false) c.in_ok-local-in-VarDef.ensures e_value)) c.declared.ensures

pub statements_of-returns-in-TryCatch : goal.statements_of-returns-in-TryCatch
statements_of-returns-in-TryCatch t c =
    let n = c.in-TryCatch in
    let a = c.args in
    let m = is_among a.locals.now.mutable.now in
    let s = is_among a.locals.now.sure.now in
    let ls = map target_view a.targets.now in
    let k = destination_view a.destination.now in
    let v : view a.tree.now ≡ try_catch n.position (view n.block.value) n.name (view n.handler.value) n.tpe = ap view (n.is ∙ sym (rolls-TryCatch n.position n.block n.name n.handler n.tpe)) ∙ fold-roll-Tree Term Case view_step case_step (Tree-F.TryCatch n.position n.block n.name n.handler n.tpe) in
    let e_first : code_view c.in_ok-first-in-TryCatch.first ≡ into m s ls k a.next (view n.block.value) = subst (λ (x : Tree). code_view c.in_ok-first-in-TryCatch.first ≡ into m s ls k a.next (view x)) c.deref-in-TryCatch.ensures c.in_ok-first-in-TryCatch.ensures in
    let e_second : code_view c.in_ok-second-in-TryCatch.second ≡ into m s ls k c.in_ok-first-in-TryCatch.first.next (view n.handler.value) = subst (λ (x : Tree). code_view c.in_ok-second-in-TryCatch.second ≡ into m s ls k c.in_ok-first-in-TryCatch.first.next (view x)) c.deref-in-TryCatch-2.ensures c.in_ok-second-in-TryCatch.ensures in
    subst (λ x. IfOk c.tried.result (λ w. code_view w ≡ x)) (sym (ap (into m s ls k a.next) v ∙ try-joins m s ls k a.next n.position (code_view c.in_ok-first-in-TryCatch.first) (code_view c.in_ok-second-in-TryCatch.second) (view n.block.value) n.name (view n.handler.value) n.tpe e_first e_second)) c.tried.ensures

pub statements_of-returns-in-TryFinally : goal.statements_of-returns-in-TryFinally
statements_of-returns-in-TryFinally t c =
    let n = c.in-TryFinally in
    let a = c.args in
    let m = is_among a.locals.now.mutable.now in
    let s = is_among a.locals.now.sure.now in
    let ls = map target_view a.targets.now in
    let k = destination_view a.destination.now in
    let f = view n.finalizer.value in
    let first = c.in_ok-first-in-TryFinally.first in
    let front = c.in_ok-front-in-TryFinally.front in
    let code = c.in_ok-code-in-TryFinally.code in
    let v : view a.tree.now ≡ try_finally n.position (view n.block.value) f = ap view (n.is ∙ sym (rolls-TryFinally n.position n.block n.finalizer)) ∙ fold-roll-Tree Term Case view_step case_step (Tree-F.TryFinally n.position n.block n.finalizer) in
    let e_first : code_view first ≡ into m s ls k a.next (view n.block.value) = subst (λ (x : Tree). code_view first ≡ into m s ls k a.next (view x)) c.deref-in-TryFinally.ensures c.in_ok-first-in-TryFinally.ensures in
    let e_kept : map variable_view c.in_ok-kept_variables-in-TryFinally.kept_variables.items ≡ kept (target_of ls) f = subst (λ (x : Tree). map variable_view c.in_ok-kept_variables-in-TryFinally.kept_variables.items ≡ kept (target_of ls) (view x)) c.deref-in-TryFinally-2.ensures c.in_ok-kept_variables-in-TryFinally.ensures in
    let e_front : code_view front ≡ keep_all (kept (target_of ls) f) first.next = c.in_ok-front-in-TryFinally.ensures ∙ ap (λ xs. keep_all xs first.next) (ap (map variable_view) c.deref-in-TryFinally-3.ensures.value ∙ e_kept) in
    let e_code : code_view code ≡ into m s ls discard front.next f = subst (λ (x : Tree). code_view code ≡ into m s ls discard front.next (view x)) c.deref-in-TryFinally-4.ensures c.in_ok-code-in-TryFinally.ensures in
    let e_second : code_view c.in_ok-second-in-TryFinally.second ≡ joined (joined (code_view front) (code_view code)) (give_all_back (kept (target_of ls) f) first.next code.next) = c.in_ok-second-in-TryFinally.ensures ∙ ap (λ xs. joined (joined (code_view front) (code_view code)) (give_all_back xs first.next code.next)) (ap (map variable_view) c.deref-in-TryFinally-5.ensures.value ∙ e_kept) in
    subst (λ x. IfOk c.finished.result (λ w. code_view w ≡ x)) (ap (finished n.position (code_view first)) e_second ∙ sym (ap (into m s ls k a.next) v ∙ finally-joins m s ls k a.next n.position (code_view first) (code_view front) (code_view code) (view n.block.value) f e_first e_front e_code)) c.finished.ensures

pub statements_of-returns-in-UnaryOp : goal.statements_of-returns-in-UnaryOp
statements_of-returns-in-UnaryOp t c =
    let n = c.in-UnaryOp in
    let a = c.args in
    let m = is_among a.locals.now.mutable.now in
    let s = is_among a.locals.now.sure.now in
    let ls = map target_view a.targets.now in
    let k = destination_view a.destination.now in
    let v : view a.tree.now ≡ unary_op n.position n.op (view n.value.value) = ap view (n.is ∙ sym (rolls-UnaryOp n.position n.op n.value)) ∙ fold-roll-Tree Term Case view_step case_step (Tree-F.UnaryOp n.position n.op n.value) in
    let e_operand : placed_view c.in_ok-operand-in-UnaryOp.operand ≡ comes_to m s ls true a.next (view n.value.value) = subst (λ (x : Tree). placed_view c.in_ok-operand-in-UnaryOp.operand ≡ comes_to m s ls true a.next (view x)) c.deref-in-UnaryOp.ensures c.in_ok-operand-in-UnaryOp.ensures in
    subst (λ x. IfOk c.unary_value.result (λ w. code_view w ≡ x)) (sym (ap (into m s ls k a.next) v ∙ unary-joins m s ls k a.next n.position (placed_view c.in_ok-operand-in-UnaryOp.operand) n.op (view n.value.value) e_operand)) c.unary_value.ensures

pub statements_of-returns-in-Log : goal.statements_of-returns-in-Log
statements_of-returns-in-Log t c =
    let n = c.in-Log in
    let a = c.args in
    let m = is_among a.locals.now.mutable.now in
    let s = is_among a.locals.now.sure.now in
    let ls = map target_view a.targets.now in
    let k = destination_view a.destination.now in
    let v : view a.tree.now ≡ log_line n.position (view n.text.value) = ap view (n.is ∙ sym (rolls-Log n.position n.text)) ∙ fold-roll-Tree Term Case view_step case_step (Tree-F.Log n.position n.text) in
    let e_line : placed_view c.in_ok-line-in-Log.line ≡ comes_to m s ls true a.next (view n.text.value) = subst (λ (x : Tree). placed_view c.in_ok-line-in-Log.line ≡ comes_to m s ls true a.next (view x)) c.deref-in-Log.ensures c.in_ok-line-in-Log.ensures in
    subst (λ x. IfOk c.logged.result (λ w. code_view w ≡ x)) (sym (ap (into m s ls k a.next) v ∙ log-joins m s ls k a.next n.position (placed_view c.in_ok-line-in-Log.line) (view n.text.value) e_line)) c.logged.ensures

pub statements_of-returns-in-BinaryOp : goal.statements_of-returns-in-BinaryOp
statements_of-returns-in-BinaryOp t c =
    let n = c.in-BinaryOp in
    let a = c.args in
    let m = is_among a.locals.now.mutable.now in
    let s = is_among a.locals.now.sure.now in
    let ls = map target_view a.targets.now in
    let k = destination_view a.destination.now in
    let v : view a.tree.now ≡ binary_op n.position n.op (view n.left.value) (view n.right.value) = ap view (n.is ∙ sym (rolls-BinaryOp n.position n.op n.left n.right)) ∙ fold-roll-Tree Term Case view_step case_step (Tree-F.BinaryOp n.position n.op n.left n.right) in
    let plain : c.is_plain-second_plain.result ≡ is_plain (view n.right.value) = subst (λ (x : Tree). c.is_plain-second_plain.result ≡ is_plain (view x)) c.deref-in-BinaryOp.ensures c.is_plain-second_plain.ensures in
    let e_one : placed_view c.in_ok-one-in-BinaryOp.one ≡ comes_to m s ls c.is_plain-second_plain.result a.next (view n.left.value) = subst (λ (x : Tree). placed_view c.in_ok-one-in-BinaryOp.one ≡ comes_to m s ls c.is_plain-second_plain.result a.next (view x)) c.deref-in-BinaryOp-2.ensures c.in_ok-one-in-BinaryOp.ensures in
    let e_other : placed_view c.in_ok-other-in-BinaryOp.other ≡ comes_to m s ls true c.in_ok-one-in-BinaryOp.one.next (view n.right.value) = subst (λ (x : Tree). placed_view c.in_ok-other-in-BinaryOp.other ≡ comes_to m s ls true c.in_ok-one-in-BinaryOp.one.next (view x)) c.deref-in-BinaryOp-3.ensures c.in_ok-other-in-BinaryOp.ensures in
    let o = placed_view c.in_ok-one-in-BinaryOp.one in
    let r = placed_view c.in_ok-other-in-BinaryOp.other in
    let written : (x y : Tree) → Code = λ x y. behind o (λ g i. behind r (λ h. finish k n.position (binary_result n.op) false (core.binary_of n.op (operand_of n.op (type_of_term (view x)) g) (operand_of n.op (type_of_term (view y)) h)))) in
    let named : written c.deref-in-BinaryOp-4.result.now c.deref-in-BinaryOp-5.result.now ≡ written n.left.value n.right.value = λ i. written (c.deref-in-BinaryOp-4.ensures i) (c.deref-in-BinaryOp-5.ensures i) in
    subst (λ x. IfOk c.binary_value.result (λ w. code_view w ≡ x)) (sym (ap (into m s ls k a.next) v ∙ binary-joins m s ls k a.next n.position o r n.op (view n.left.value) (view n.right.value) c.is_plain-second_plain.result plain e_one e_other ∙ sym named)) c.binary_value.ensures

pub statements_of-returns-in-Match : goal.statements_of-returns-in-Match
statements_of-returns-in-Match t c =
    let n = c.in-Match in
    let a = c.args in
    let m = is_among a.locals.now.mutable.now in
    let s = is_among a.locals.now.sure.now in
    let ls = map target_view a.targets.now in
    let k = destination_view a.destination.now in
    let v : view a.tree.now ≡ match_on n.position (view n.selector.value) (cases_view n.cases.items) (view n.default.value) n.tpe = ap view (n.is ∙ sym (rolls-Match n.position n.selector n.cases n.default n.tpe)) ∙ fold-roll-Tree Term Case view_step case_step (Tree-F.Match n.position n.selector n.cases n.default n.tpe) in
    let e_selected : placed_view c.in_ok-selected-in-Match.selected ≡ comes_to m s ls true a.next (view n.selector.value) = subst (λ (x : Tree). placed_view c.in_ok-selected-in-Match.selected ≡ comes_to m s ls true a.next (view x)) c.deref-in-Match.ensures c.in_ok-selected-in-Match.ensures in
    let e_branches : branches_view c.in_ok-branches-in-Match.branches ≡ cases m s ls k c.in_ok-selected-in-Match.selected.next (cases_view n.cases.items) = subst (λ xs. branches_view c.in_ok-branches-in-Match.branches ≡ cases m s ls k c.in_ok-selected-in-Match.selected.next (cases_view xs)) c.deref-in-Match-2.ensures.value c.in_ok-branches-in-Match.ensures in
    let e_last : code_view c.in_ok-last-in-Match.last ≡ into m s ls k c.in_ok-branches-in-Match.branches.next (view n.default.value) = subst (λ (x : Tree). code_view c.in_ok-last-in-Match.last ≡ into m s ls k c.in_ok-branches-in-Match.branches.next (view x)) c.deref-in-Match-3.ensures c.in_ok-last-in-Match.ensures in
    subst (λ x. IfOk c.switched.result (λ w. code_view w ≡ x)) (sym (ap (into m s ls k a.next) v ∙ match-joins m s ls k a.next n.position (placed_view c.in_ok-selected-in-Match.selected) (branches_view c.in_ok-branches-in-Match.branches) (code_view c.in_ok-last-in-Match.last) (view n.selector.value) (cases_view n.cases.items) (view n.default.value) n.tpe e_selected e_branches e_last)) c.switched.ensures

pub statements_of-returns-in-DoWhile : goal.statements_of-returns-in-DoWhile
statements_of-returns-in-DoWhile t c =
    let n = c.in-DoWhile in
    let a = c.args in
    let m = is_among a.locals.now.mutable.now in
    let s = is_among a.locals.now.sure.now in
    let ls = map target_view a.targets.now in
    let k = destination_view a.destination.now in
    let v : view a.tree.now ≡ do_while n.position (view n.body.value) (view n.condition.value) = ap view (n.is ∙ sym (rolls-DoWhile n.position n.body n.condition)) ∙ fold-roll-Tree Term Case view_step case_step (Tree-F.DoWhile n.position n.body n.condition) in
    let e_whole : code_view c.in_ok-whole-in-DoWhile.whole ≡ into m s ls discard a.next (view n.body.value) = subst (λ (x : Tree). code_view c.in_ok-whole-in-DoWhile.whole ≡ into m s ls discard a.next (view x)) c.deref-in-DoWhile.ensures c.in_ok-whole-in-DoWhile.ensures in
    let e_back : placed_view c.in_ok-back-in-DoWhile.back ≡ comes_to m s ls true c.in_ok-whole-in-DoWhile.whole.next (view n.condition.value) = subst (λ (x : Tree). placed_view c.in_ok-back-in-DoWhile.back ≡ comes_to m s ls true c.in_ok-whole-in-DoWhile.whole.next (view x)) c.deref-in-DoWhile-2.ensures c.in_ok-back-in-DoWhile.ensures in
    subst (λ x. IfOk c.looped_behind.result (λ w. code_view w ≡ x)) (sym (ap (into m s ls k a.next) v ∙ loop-joins m s ls k a.next n.position (code_view c.in_ok-whole-in-DoWhile.whole) (placed_view c.in_ok-back-in-DoWhile.back) (view n.body.value) (view n.condition.value) e_whole e_back)) c.looped_behind.ensures

pub statements_of-cases_of-requires : goal.statements_of-cases_of-requires
statements_of-cases_of-requires t c =
    (rw c.deref-in-Match-2.ensures.value (omega (arith, ap the_size c.in-Match.is ∙ sized-Match c.in-Match.position c.in-Match.selector c.in-Match.cases c.in-Match.default c.in-Match.tpe)), tt)

pub statements_of-returns-in-While : goal.statements_of-returns-in-While
statements_of-returns-in-While t c =
    let n = c.in-While in
    let a = c.args in
    let m = is_among a.locals.now.mutable.now in
    let s = is_among a.locals.now.sure.now in
    let ls = map target_view a.targets.now in
    let k = destination_view a.destination.now in
    let v : view a.tree.now ≡ while_loop n.position (view n.condition.value) (view n.body.value) = ap view (n.is ∙ sym (rolls-While n.position n.condition n.body)) ∙ fold-roll-Tree Term Case view_step case_step (Tree-F.While n.position n.condition n.body) in
    let tested : c.is_plain-repeated.result ≡ is_plain (view n.condition.value) = subst (λ (x : Tree). c.is_plain-repeated.result ≡ is_plain (view x)) c.deref-in-While.ensures c.is_plain-repeated.ensures in
    let e_front : placed_view c.in_ok-front-in-While.front ≡ comes_to m s ls true a.next (view n.condition.value) = subst (λ (x : Tree). placed_view c.in_ok-front-in-While.front ≡ comes_to m s ls true a.next (view x)) c.deref-else-repeated.ensures c.in_ok-front-in-While.ensures in
    let e_rest : code_view c.in_ok-rest-in-While.rest ≡ into m s ls discard c.in_ok-front-in-While.front.next (view n.body.value) = subst (λ (x : Tree). code_view c.in_ok-rest-in-While.rest ≡ into m s ls discard c.in_ok-front-in-While.front.next (view x)) c.deref-else-repeated-2.ensures c.in_ok-rest-in-While.ensures in
    subst (λ x. IfOk c.tested_loop.result (λ w. code_view w ≡ x)) (sym (ap (into m s ls k a.next) v ∙ turn-joins m s ls k a.next n.position (placed_view c.in_ok-front-in-While.front) (code_view c.in_ok-rest-in-While.rest) (behind (placed_view c.in_ok-front-in-While.front) (λ g i. put_first (break_unless g) (code_view c.in_ok-rest-in-While.rest))) (view n.condition.value) (view n.body.value) (sym tested ∙ c.if-repeated.false) e_front e_rest refl)) c.tested_loop.ensures

pub block_of-loop-index-preserved : goal.block_of-loop-index-preserved
block_of-loop-index-preserved t c =
    let a = c.args in
    let m = is_among a.locals.now.mutable.now in
    let s = is_among a.locals.now.sure.now in
    let ls = map target_view a.targets.now in
    let k = destination_view a.destination.now in
    block-step m s ls a.trees.now c.loop-index.index c.index-trees-index.result k (destination_view c.for_last-goes_to.result.now) (code_view c.loop-index.written) (code_view c.in_ok-code.code) (code_view c.in_ok-written.written) c.loop-index-test.true c.index-trees-index.is (c.for_last-goes_to.ensures ∙ ap (λ us. for_last us k discard) (slice-rest a.trees.now (c.loop-index.index + 1))) c.in_ok-code.ensures c.in_ok-written.ensures ∙ c.loop-index.invariant

pub arguments_of-loop-index-preserved : goal.arguments_of-loop-index-preserved
arguments_of-loop-index-preserved t c =
    let a = c.args in
    let m = is_among a.locals.now.mutable.now in
    let s = is_among a.locals.now.sure.now in
    let ls = map target_view a.targets.now in
    let x = c.index-trees-index.result in
    let rest : c.are_plain-rest_is_plain.result ≡ are_plain (terms_view (drop (c.loop-index.index + 1) a.trees.now)) = c.are_plain-rest_is_plain.ensures ∙ ap (λ us. are_plain (terms_view us)) (slice-rest a.trees.now (c.loop-index.index + 1)) in
    let own : c.in_ok-own.own ≡ type_of_term (view x) = c.in_ok-own.ensures in
    let one : expression_view c.in_ok-coerced_argument.field-0 ≡ coerced_argument c.loop-index.left.now (type_of_term (view x)) (expression_view c.in_ok-operand.operand.expression) = c.in_ok-coerced_argument.ensures ∙ ap (λ u. coerced_argument c.loop-index.left.now u (expression_view c.in_ok-operand.operand.expression)) own in
    let pushed : map expression_view c.push.new.self.items ≡ map expression_view c.loop-index.expressions.items ++ expression_view c.in_ok-coerced_argument.field-0 ∷ [] = rw c.in_ok-push.ensures.items (map_push _ c.loop-index.expressions.items c.in_ok-coerced_argument.field-0) in
    arguments-step m s ls a.trees.now c.loop-index.index x (code_view c.loop-index.written) (code_view c.in_ok-written.written) (placed_view c.in_ok-operand.operand) (map expression_view c.loop-index.expressions.items) (map expression_view c.push.new.self.items) c.loop-index.left.now c.without_first-left.result.now c.are_plain-rest_is_plain.result c.loop-index-test.true c.index-trees-index.is rest c.in_ok-operand.ensures c.in_ok-written.ensures (pushed ∙ ap (λ e. map expression_view c.loop-index.expressions.items ++ e ∷ []) one) c.without_first-left.ensures ∙ c.loop-index.invariant

pub items_of-loop-index-preserved : goal.items_of-loop-index-preserved
items_of-loop-index-preserved t c =
    let a = c.args in
    let m = is_among a.locals.now.mutable.now in
    let s = is_among a.locals.now.sure.now in
    let ls = map target_view a.targets.now in
    let x = c.index-trees-index.result in
    let rest : c.are_plain-rest_is_plain.result ≡ are_plain (terms_view (drop (c.loop-index.index + 1) a.trees.now)) = c.are_plain-rest_is_plain.ensures ∙ ap (λ us. are_plain (terms_view us)) (slice-rest a.trees.now (c.loop-index.index + 1)) in
    let one : expression_view c.in_ok-coerced_value.field-0 ≡ coerced a.expected.now (type_of_term (view x)) (expression_view c.in_ok-operand.operand.expression) = c.in_ok-coerced_value.ensures in
    let pushed : map expression_view c.push.new.self.items ≡ map expression_view c.loop-index.expressions.items ++ expression_view c.in_ok-coerced_value.field-0 ∷ [] = rw c.in_ok-push.ensures.items (map_push _ c.loop-index.expressions.items c.in_ok-coerced_value.field-0) in
    items-step m s ls a.trees.now c.loop-index.index x (code_view c.loop-index.written) (code_view c.in_ok-written.written) (placed_view c.in_ok-operand.operand) (map expression_view c.loop-index.expressions.items) (map expression_view c.push.new.self.items) a.expected.now c.are_plain-rest_is_plain.result c.loop-index-test.true c.index-trees-index.is rest c.in_ok-operand.ensures c.in_ok-written.ensures (pushed ∙ ap (λ e. map expression_view c.loop-index.expressions.items ++ e ∷ []) one) ∙ c.loop-index.invariant

pub cases_of-loop-each-preserved : goal.cases_of-loop-each-preserved
cases_of-loop-each-preserved t c =
    let a = c.args in
    let m = is_among a.locals.now.mutable.now in
    let s = is_among a.locals.now.sure.now in
    let ls = map target_view a.targets.now in
    let k = destination_view a.destination.now in
    let x = c.each-item.result in
    let seen : view_case x ≡ (x.keys, view x.body) = fold_out-MatchCase Term Case view_step case_step x in
    let keys : c.as_slice-keys.result.now ≡ (view_case x).0 = c.as_slice-keys.ensures ∙ sym (ap (λ y. y.0) seen) in
    let put : 0 < length c.as_slice-keys.result.now = grind (arith, nat_tests) in
    let some : 0 < length (view_case x).0 = subst (λ ks. 0 < length ks) keys put in
    let coded : code_view c.in_ok-code.code ≡ into m s ls k c.loop-each.number (view_case x).1 = c.in_ok-code.ensures ∙ ap (λ y. into m s ls k c.loop-each.number y) (sym (ap (λ y. y.1) seen)) in
    let made : case_view c.in_ok-case_of.field-0 ≡ ((view_case x).0, followed (code_view c.in_ok-code.code).statements (statement (break_nearest None) no_statements)) = c.in_ok-case_of.ensures ∙ ap (λ ks. (ks, followed (code_view c.in_ok-code.code).statements (statement (break_nearest None) no_statements))) keys in
    let pushed : map case_view c.push.new.self.items ≡ map case_view c.loop-each.switched.items ++ case_view c.in_ok-case_of.field-0 ∷ [] = rw c.in_ok-push.ensures.items (map_push _ c.loop-each.switched.items c.in_ok-case_of.field-0) in
    cases-take m s ls a.cases.now c.loop-each.each-index x k c.loop-each.number (map case_view c.loop-each.switched.items) (map case_view c.push.new.self.items) (code_view c.in_ok-code.code) c.loop-each-test.true c.each-item.is some coded (pushed ∙ ap (λ y. map case_view c.loop-each.switched.items ++ y ∷ []) made) ∙ c.loop-each.invariant

pub checked_receiver-returns-in_ok-code : goal.checked_receiver-returns-in_ok-code
checked_receiver-returns-in_ok-code t c =
    let a = c.args in
    let m = is_among a.locals.now.mutable.now in
    let s = is_among a.locals.now.sure.now in
    let ls = map target_view a.targets.now in
    let v = view a.tree.now in
    let inner : placed_view c.in_ok-inner.inner ≡ comes_to m s ls true (suc a.next) v = c.in_ok-inner.ensures ∙ ap (λ n. comes_to m s ls true n v) c.in_ok-behind.ensures in
    let whole : code_view c.in_ok-code.code ≡ behind (comes_to m s ls true (suc a.next) v) (λ e. finish (to_variable (core.numbered a.next) (type_of_term v)) (position_of v) (type_of_term v) false (core.checked_value e)) = c.in_ok-code.ensures ∙ (λ i. behind (inner i) (λ e. finish (c.in_ok-variable.ensures i) (position_of v) (type_of_term v) false (core.checked_value e))) in
    subst (λ x. IfOk c.brought.result (λ p. placed_view p ≡ x)) ((λ i. brought (c.position_of-else-plain.ensures i) a.next (whole i)) ∙ sym (checked-brought m s ls discard a.next (position_of v) a.rest_is_plain v (sym c.is_plain-plain.ensures ∙ c.if-plain.false))) c.brought.ensures

pub receiver_of-returns-then-never_null : goal.receiver_of-returns-then-never_null
receiver_of-returns-then-never_null t c =
    let a = c.args in
    let m = is_among a.locals.now.mutable.now in
    let s = is_among a.locals.now.sure.now in
    let ls = map target_view a.targets.now in
    let v = view a.tree.now in
    subst (λ x. IfOk c.operand_of.result (λ p. placed_view p ≡ x)) (received-sure m s ls discard a.next (position_of v) a.rest_is_plain v (sym c.in_ok-never_null.ensures ∙ c.if-never_null.true)) c.operand_of.ensures

pub receiver_of-returns-else-never_null : goal.receiver_of-returns-else-never_null
receiver_of-returns-else-never_null t c =
    let a = c.args in
    let m = is_among a.locals.now.mutable.now in
    let s = is_among a.locals.now.sure.now in
    let ls = map target_view a.targets.now in
    let v = view a.tree.now in
    subst (λ x. IfOk c.checked_receiver.result (λ p. placed_view p ≡ x)) (received-checked m s ls discard a.next (position_of v) a.rest_is_plain v (sym c.in_ok-never_null.ensures ∙ c.if-never_null.false)) c.checked_receiver.ensures

pub statements_of-returns-in-Apply : goal.statements_of-returns-in-Apply
statements_of-returns-in-Apply t c =
    let n = c.in-Apply in
    let a = c.args in
    let m = is_among a.locals.now.mutable.now in
    let s = is_among a.locals.now.sure.now in
    let ls = map target_view a.targets.now in
    let k = destination_view a.destination.now in
    let ts = terms_view n.trees.items in
    let v : view a.tree.now ≡ apply n.position (view n.object.value) n.method ts n.tpe = ap view (n.is ∙ sym (rolls-Apply n.position n.object n.method n.trees n.tpe)) ∙ fold-roll-Tree Term Case view_step case_step (Tree-F.Apply n.position n.object n.method n.trees n.tpe) in
    let o = placed_view c.in_ok-owner-in-Apply.owner in
    let w = all_view c.in_ok-arguments-in-Apply.arguments in
    let plain : c.are_plain-trees_plain.result ≡ are_plain ts = subst (λ xs. c.are_plain-trees_plain.result ≡ are_plain (terms_view xs)) c.deref-in-Apply.ensures.value c.are_plain-trees_plain.ensures in
    let e_owner : o ≡ comes_received m s ls c.are_plain-trees_plain.result a.next (view n.object.value) = subst (λ (x : Tree). o ≡ comes_received m s ls c.are_plain-trees_plain.result a.next (view x)) c.deref-in-Apply-2.ensures c.in_ok-owner-in-Apply.ensures in
    let e_arguments : w ≡ with_arguments n.method.params (types_of ts) (spill (operands m s ls ts) c.in_ok-owner-in-Apply.owner.next) = c.in_ok-arguments-in-Apply.ensures ∙ (λ i. with_arguments (c.as_slice-params-in-Apply.ensures i) (types_of (terms_view (c.deref-in-Apply-3.ensures.value i))) (spill (operands m s ls (terms_view (c.deref-in-Apply-3.ensures.value i))) c.in_ok-owner-in-Apply.owner.next)) in
    subst (λ x. IfOk c.looked_up_value.result (λ w. code_view w ≡ x)) (sym (ap (into m s ls k a.next) v ∙ receive-joins m s ls k a.next n.position o w (callee_of (type_of_term (view n.object.value)) n.method) (view n.object.value) n.method ts n.tpe c.are_plain-trees_plain.result plain e_owner e_arguments ∙ sym (ap (λ (x : Tree). behind o (λ g i. then_use w (λ es. finish k n.position n.tpe false (core.receiver_call (callee_of (type_of_term (view x)) n.method) (coerced_receiver (type_of_term (view x)) g) (expressions_of es))))) c.deref-in-Apply-4.ensures))) c.looked_up_value.ensures

pub statements_of-returns-in-ApplyStatically : goal.statements_of-returns-in-ApplyStatically
statements_of-returns-in-ApplyStatically t c =
    let n = c.in-ApplyStatically in
    let a = c.args in
    let m = is_among a.locals.now.mutable.now in
    let s = is_among a.locals.now.sure.now in
    let ls = map target_view a.targets.now in
    let k = destination_view a.destination.now in
    let ts = terms_view n.trees.items in
    let v : view a.tree.now ≡ apply_statically n.position (view n.object.value) n.class n.namespace n.method ts n.tpe = ap view (n.is ∙ sym (rolls-ApplyStatically n.position n.object n.class n.namespace n.method n.trees n.tpe)) ∙ fold-roll-Tree Term Case view_step case_step (Tree-F.ApplyStatically n.position n.object n.class n.namespace n.method n.trees n.tpe) in
    let o = placed_view c.in_ok-owner-in-ApplyStatically.owner in
    let w = all_view c.in_ok-arguments-in-ApplyStatically.arguments in
    let plain : c.are_plain-all_plain.result ≡ are_plain ts = subst (λ xs. c.are_plain-all_plain.result ≡ are_plain (terms_view xs)) c.deref-in-ApplyStatically.ensures.value c.are_plain-all_plain.ensures in
    let e_owner : o ≡ comes_received m s ls c.are_plain-all_plain.result a.next (view n.object.value) = subst (λ (x : Tree). o ≡ comes_received m s ls c.are_plain-all_plain.result a.next (view x)) c.deref-in-ApplyStatically-2.ensures c.in_ok-owner-in-ApplyStatically.ensures in
    let e_arguments : w ≡ with_arguments n.method.params (types_of ts) (spill (operands m s ls ts) c.in_ok-owner-in-ApplyStatically.owner.next) = c.in_ok-arguments-in-ApplyStatically.ensures ∙ (λ i. with_arguments (c.as_slice-params-in-ApplyStatically.ensures i) (types_of (terms_view (c.deref-in-ApplyStatically-3.ensures.value i))) (spill (operands m s ls (terms_view (c.deref-in-ApplyStatically-3.ensures.value i))) c.in_ok-owner-in-ApplyStatically.owner.next)) in
    subst (λ x. IfOk c.member_value.result (λ w. code_view w ≡ x)) (sym (ap (into m s ls k a.next) v ∙ receive-joins m s ls k a.next n.position o w (callees.Member (member n.class n.namespace n.method)) (view n.object.value) n.method ts n.tpe c.are_plain-all_plain.result plain e_owner e_arguments ∙ sym (ap (λ (x : Tree). behind o (λ g i. then_use w (λ es. finish k n.position n.tpe false (core.receiver_call (callees.Member (member n.class n.namespace n.method)) (coerced_receiver (type_of_term (view x)) g) (expressions_of es))))) c.deref-in-ApplyStatically-4.ensures))) c.member_value.ensures

pub statements_of-returns-in-Select : goal.statements_of-returns-in-Select
statements_of-returns-in-Select t c =
    let n = c.in-Select in
    let a = c.args in
    let m = is_among a.locals.now.mutable.now in
    let s = is_among a.locals.now.sure.now in
    let ls = map target_view a.targets.now in
    let k = destination_view a.destination.now in
    let v : view a.tree.now ≡ select n.position (view n.object.value) n.class n.name n.tpe = ap view (n.is ∙ sym (rolls-Select n.position n.object n.class n.name n.tpe)) ∙ fold-roll-Tree Term Case view_step case_step (Tree-F.Select n.position n.object n.class n.name n.tpe) in
    let o = placed_view c.in_ok-owner-in-Select.owner in
    let e_owner : o ≡ comes_received m s ls true a.next (view n.object.value) = subst (λ (x : Tree). o ≡ comes_received m s ls true a.next (view x)) c.deref-in-Select.ensures c.in_ok-owner-in-Select.ensures in
    subst (λ x. IfOk c.field_value.result (λ w. code_view w ≡ x)) (sym (ap (into m s ls k a.next) v ∙ field-joins m s ls k a.next n.position o (view n.object.value) n.class n.name n.tpe e_owner)) c.field_value.ensures

pub statements_of-returns-in-NewArray : goal.statements_of-returns-in-NewArray
statements_of-returns-in-NewArray t c =
    let n = c.in-NewArray in
    let a = c.args in
    let m = is_among a.locals.now.mutable.now in
    let s = is_among a.locals.now.sure.now in
    let ls = map target_view a.targets.now in
    let k = destination_view a.destination.now in
    let v : view a.tree.now ≡ new_array n.position n.array (view n.length.value) = ap view (n.is ∙ sym (rolls-NewArray n.position n.array n.length)) ∙ fold-roll-Tree Term Case view_step case_step (Tree-F.NewArray n.position n.array n.length) in
    let o = placed_view c.in_ok-size-in-NewArray.size in
    let e_size : o ≡ comes_to m s ls true a.next (view n.length.value) = subst (λ (x : Tree). o ≡ comes_to m s ls true a.next (view x)) c.deref-in-NewArray.ensures c.in_ok-size-in-NewArray.ensures in
    subst (λ x. IfOk c.new_array_value.result (λ w. code_view w ≡ x)) (sym (ap (into m s ls k a.next) v ∙ new-array-joins m s ls k a.next n.position o n.array (view n.length.value) e_size)) c.new_array_value.ensures

pub statements_of-returns-in-ArrayValue : goal.statements_of-returns-in-ArrayValue
statements_of-returns-in-ArrayValue t c =
    let n = c.in-ArrayValue in
    let a = c.args in
    let m = is_among a.locals.now.mutable.now in
    let s = is_among a.locals.now.sure.now in
    let ls = map target_view a.targets.now in
    let k = destination_view a.destination.now in
    let ts = terms_view n.trees.items in
    let u = c.in_ok-expected-in-ArrayValue.expected in
    let v : view a.tree.now ≡ array_value n.position n.array ts = ap view (n.is ∙ sym (rolls-ArrayValue n.position n.array n.trees)) ∙ fold-roll-Tree Term Case view_step case_step (Tree-F.ArrayValue n.position n.array n.trees) in
    let w = all_view c.in_ok-items-in-ArrayValue.items in
    let e_items : w ≡ with_items u (types_of ts) (spill (operands m s ls ts) a.next) = subst (λ xs. w ≡ with_items u (types_of (terms_view xs)) (spill (operands m s ls (terms_view xs)) a.next)) c.deref-in-ArrayValue.ensures.value c.in_ok-items-in-ArrayValue.ensures in
    subst (λ x. IfOk c.array_value.result (λ w. code_view w ≡ x)) (sym (ap (into m s ls k a.next) v ∙ items-joins m s ls k a.next n.position w n.array ts u c.in_ok-expected-in-ArrayValue.ensures e_items)) c.array_value.ensures

pub statements_of-returns-in-ArrayLength : goal.statements_of-returns-in-ArrayLength
statements_of-returns-in-ArrayLength t c =
    let n = c.in-ArrayLength in
    let a = c.args in
    let m = is_among a.locals.now.mutable.now in
    let s = is_among a.locals.now.sure.now in
    let ls = map target_view a.targets.now in
    let k = destination_view a.destination.now in
    let v : view a.tree.now ≡ array_length n.position (view n.array.value) = ap view (n.is ∙ sym (rolls-ArrayLength n.position n.array)) ∙ fold-roll-Tree Term Case view_step case_step (Tree-F.ArrayLength n.position n.array) in
    let o = placed_view c.in_ok-owner-in-ArrayLength.owner in
    let e_owner : o ≡ comes_received m s ls true a.next (view n.array.value) = subst (λ (x : Tree). o ≡ comes_received m s ls true a.next (view x)) c.deref-in-ArrayLength.ensures c.in_ok-owner-in-ArrayLength.ensures in
    subst (λ x. IfOk c.length_value.result (λ w. code_view w ≡ x)) (sym (ap (into m s ls k a.next) v ∙ length-joins m s ls k a.next n.position o (view n.array.value) e_owner)) c.length_value.ensures

pub statements_of-returns-in-ArraySelect : goal.statements_of-returns-in-ArraySelect
statements_of-returns-in-ArraySelect t c =
    let n = c.in-ArraySelect in
    let a = c.args in
    let m = is_among a.locals.now.mutable.now in
    let s = is_among a.locals.now.sure.now in
    let ls = map target_view a.targets.now in
    let k = destination_view a.destination.now in
    let v : view a.tree.now ≡ array_select n.position (view n.array.value) (view n.index.value) n.tpe = ap view (n.is ∙ sym (rolls-ArraySelect n.position n.array n.index n.tpe)) ∙ fold-roll-Tree Term Case view_step case_step (Tree-F.ArraySelect n.position n.array n.index n.tpe) in
    let o = placed_view c.in_ok-owner-in-ArraySelect.owner in
    let r = placed_view c.in_ok-place-in-ArraySelect.place in
    let plain : c.is_plain-index_plain.result ≡ is_plain (view n.index.value) = subst (λ (x : Tree). c.is_plain-index_plain.result ≡ is_plain (view x)) c.deref-in-ArraySelect.ensures c.is_plain-index_plain.ensures in
    let e_owner : o ≡ comes_received m s ls c.is_plain-index_plain.result a.next (view n.array.value) = subst (λ (x : Tree). o ≡ comes_received m s ls c.is_plain-index_plain.result a.next (view x)) c.deref-in-ArraySelect-2.ensures c.in_ok-owner-in-ArraySelect.ensures in
    let e_place : r ≡ comes_to m s ls true c.in_ok-owner-in-ArraySelect.owner.next (view n.index.value) = subst (λ (x : Tree). r ≡ comes_to m s ls true c.in_ok-owner-in-ArraySelect.owner.next (view x)) c.deref-in-ArraySelect-3.ensures c.in_ok-place-in-ArraySelect.ensures in
    subst (λ x. IfOk c.element_value.result (λ w. code_view w ≡ x)) (sym (ap (into m s ls k a.next) v ∙ element-joins m s ls k a.next n.position o r (view n.array.value) (view n.index.value) n.tpe c.is_plain-index_plain.result plain e_owner e_place)) c.element_value.ensures

pub statements_of-returns-in-Throw : goal.statements_of-returns-in-Throw
statements_of-returns-in-Throw t c =
    let n = c.in-Throw in
    let a = c.args in
    let m = is_among a.locals.now.mutable.now in
    let s = is_among a.locals.now.sure.now in
    let ls = map target_view a.targets.now in
    let k = destination_view a.destination.now in
    let v : view a.tree.now ≡ throw n.position (view n.value.value) = ap view (n.is ∙ sym (rolls-Throw n.position n.value)) ∙ fold-roll-Tree Term Case view_step case_step (Tree-F.Throw n.position n.value) in
    let o = placed_view c.in_ok-object-in-Throw.object in
    let e_object : o ≡ comes_to m s ls true a.next (view n.value.value) = subst (λ (x : Tree). o ≡ comes_to m s ls true a.next (view x)) c.deref-in-Throw.ensures c.in_ok-object-in-Throw.ensures in
    subst (λ x. IfOk c.thrown.result (λ w. code_view w ≡ x)) (sym (ap (into m s ls k a.next) v ∙ throw-joins m s ls k a.next n.position o (view n.value.value) e_object ∙ sym (ap (λ (x : Tree). behind o (λ g. one (core.throw_of (Some n.position) (coerced Any (type_of_term (view x)) g)))) c.deref-in-Throw-2.ensures))) c.thrown.ensures

pub statements_of-returns-in-StoreModule : goal.statements_of-returns-in-StoreModule
statements_of-returns-in-StoreModule t c =
    let n = c.in-StoreModule in
    let a = c.args in
    let m = is_among a.locals.now.mutable.now in
    let s = is_among a.locals.now.sure.now in
    let ls = map target_view a.targets.now in
    let k = destination_view a.destination.now in
    let v : view a.tree.now ≡ store_module n.position n.class (view n.value.value) = ap view (n.is ∙ sym (rolls-StoreModule n.position n.class n.value)) ∙ fold-roll-Tree Term Case view_step case_step (Tree-F.StoreModule n.position n.class n.value) in
    let o = placed_view c.in_ok-object-in-StoreModule.object in
    let e_object : o ≡ comes_to m s ls true a.next (view n.value.value) = subst (λ (x : Tree). o ≡ comes_to m s ls true a.next (view x)) c.deref-in-StoreModule.ensures c.in_ok-object-in-StoreModule.ensures in
    subst (λ x. IfOk c.module_stored.result (λ w. code_view w ≡ x)) (sym (ap (into m s ls k a.next) v ∙ store-joins m s ls k a.next n.position o n.class (view n.value.value) e_object ∙ sym (ap (λ (x : Tree). behind o (λ g. one (core.store_module_of (Some n.position) n.class (coerced (class_type n.class) (type_of_term (view x)) g)))) c.deref-in-StoreModule-2.ensures))) c.module_stored.ensures

pub statements_of-returns-in-IsInstanceOf : goal.statements_of-returns-in-IsInstanceOf
statements_of-returns-in-IsInstanceOf t c =
    let n = c.in-IsInstanceOf in
    let a = c.args in
    let m = is_among a.locals.now.mutable.now in
    let s = is_among a.locals.now.sure.now in
    let ls = map target_view a.targets.now in
    let k = destination_view a.destination.now in
    let v : view a.tree.now ≡ is_instance_of n.position (view n.value.value) n.tpe = ap view (n.is ∙ sym (rolls-IsInstanceOf n.position n.value n.tpe)) ∙ fold-roll-Tree Term Case view_step case_step (Tree-F.IsInstanceOf n.position n.value n.tpe) in
    let o = placed_view c.in_ok-operand-in-IsInstanceOf.operand in
    let e_operand : o ≡ comes_to m s ls true a.next (view n.value.value) = subst (λ (x : Tree). o ≡ comes_to m s ls true a.next (view x)) c.deref-in-IsInstanceOf.ensures c.in_ok-operand-in-IsInstanceOf.ensures in
    subst (λ x. IfOk c.tested_value.result (λ w. code_view w ≡ x)) (sym (ap (into m s ls k a.next) v ∙ test-joins m s ls k a.next n.position o (view n.value.value) n.tpe e_operand ∙ sym (ap (λ (x : Tree). behind o (λ g. finish k n.position Boolean false (core.test_of n.tpe (coerced Any (type_of_term (view x)) g)))) c.deref-in-IsInstanceOf-2.ensures))) c.tested_value.ensures

pub statements_of-returns-in-AsInstanceOf : goal.statements_of-returns-in-AsInstanceOf
statements_of-returns-in-AsInstanceOf t c =
    let n = c.in-AsInstanceOf in
    let a = c.args in
    let m = is_among a.locals.now.mutable.now in
    let s = is_among a.locals.now.sure.now in
    let ls = map target_view a.targets.now in
    let k = destination_view a.destination.now in
    let v : view a.tree.now ≡ as_instance_of n.position (view n.value.value) n.tpe = ap view (n.is ∙ sym (rolls-AsInstanceOf n.position n.value n.tpe)) ∙ fold-roll-Tree Term Case view_step case_step (Tree-F.AsInstanceOf n.position n.value n.tpe) in
    let o = placed_view c.in_ok-operand-in-AsInstanceOf.operand in
    let e_operand : o ≡ comes_to m s ls true a.next (view n.value.value) = subst (λ (x : Tree). o ≡ comes_to m s ls true a.next (view x)) c.deref-in-AsInstanceOf.ensures c.in_ok-operand-in-AsInstanceOf.ensures in
    subst (λ x. IfOk c.cast_value.result (λ w. code_view w ≡ x)) (sym (ap (into m s ls k a.next) v ∙ cast-joins m s ls k a.next n.position o (view n.value.value) n.tpe e_operand ∙ sym (ap (λ (x : Tree). behind o (λ g. finish k n.position n.tpe false (core.cast_of n.tpe (coerced Any (type_of_term (view x)) g)))) c.deref-in-AsInstanceOf-2.ensures))) c.cast_value.ensures

pub statements_of-returns-in-Assign : goal.statements_of-returns-in-Assign
statements_of-returns-in-Assign t c =
    let n = c.in-Assign in
    let a = c.args in
    let m = is_among a.locals.now.mutable.now in
    let s = is_among a.locals.now.sure.now in
    let ls = map target_view a.targets.now in
    let k = destination_view a.destination.now in
    let v : view a.tree.now ≡ assign n.position (view n.target.value) (view n.value.value) = ap view (n.is ∙ sym (rolls-Assign n.position n.target n.value)) ∙ fold-roll-Tree Term Case view_step case_step (Tree-F.Assign n.position n.target n.value) in
    let plain : c.is_plain-value_plain.result ≡ is_plain (view n.value.value) = subst (λ (x : Tree). c.is_plain-value_plain.result ≡ is_plain (view x)) c.deref-in-Assign.ensures c.is_plain-value_plain.ensures in
    let o = placed_view c.in_ok-owner-in-Assign.owner in
    let place : o ≡ owner_place m s ls c.is_plain-value_plain.result a.next (view n.target.value) = subst (λ (x : Tree). o ≡ owner_place m s ls c.is_plain-value_plain.result a.next (view x)) c.deref-in-Assign-2.ensures c.in_ok-owner-in-Assign.ensures in
    let r = placed_view c.in_ok-index-in-Assign.index in
    let spot : r ≡ index_place m s ls c.is_plain-value_plain.result c.in_ok-owner-in-Assign.owner.next (view n.target.value) = subst (λ (x : Tree). r ≡ index_place m s ls c.is_plain-value_plain.result c.in_ok-owner-in-Assign.owner.next (view x)) c.deref-in-Assign-3.ensures c.in_ok-index-in-Assign.ensures in
    let written : IfOk c.assignment_of.result (λ w. code_view w ≡ assigned_code m s ls a.next n.position (view n.target.value) (view n.value.value) o r) = subst (λ (x : Tree). IfOk c.assignment_of.result (λ w. code_view w ≡ assigned_code m s ls a.next n.position (view x) (view n.value.value) o r)) c.deref-in-Assign-5.ensures (subst (λ (x : Tree). IfOk c.assignment_of.result (λ w. code_view w ≡ assigned_code m s ls a.next n.position (view c.deref-in-Assign-5.result.now) (view x) o r)) c.deref-in-Assign-4.ensures c.assignment_of.ensures) in
    subst (λ x. IfOk c.assignment_of.result (λ w. code_view w ≡ x)) (sym (ap (into m s ls k a.next) v ∙ assignment-joins m s ls k a.next n.position o r (view n.target.value) (view n.value.value) c.is_plain-value_plain.result plain place spot)) written

pub owner_of-returns-in-Select : goal.owner_of-returns-in-Select
owner_of-returns-in-Select t c =
    let r = c.in-Select in
    let a = c.args in
    let m = is_among a.locals.now.mutable.now in
    let s = is_among a.locals.now.sure.now in
    let ls = map target_view a.targets.now in
    let there : view a.target.now ≡ select r.position (view r.object.value) r.class r.field r.tpe = ap view (r.is ∙ sym (rolls-Select r.position r.object r.class r.field r.tpe)) ∙ fold-roll-Tree Term Case view_step case_step (Tree-F.Select r.position r.object r.class r.field r.tpe) in
    subst (λ x. IfOk c.receiver_of.result (λ p. placed_view p ≡ x)) (ap (λ (x : Tree). comes_received m s ls a.rest_is_plain a.next (view x)) c.deref.ensures ∙ sym (ap (owner_place m s ls a.rest_is_plain a.next) there)) c.receiver_of.ensures

pub owner_of-returns-in-ArraySelect : goal.owner_of-returns-in-ArraySelect
owner_of-returns-in-ArraySelect t c =
    let r = c.in-ArraySelect in
    let a = c.args in
    let m = is_among a.locals.now.mutable.now in
    let s = is_among a.locals.now.sure.now in
    let ls = map target_view a.targets.now in
    let there : view a.target.now ≡ array_select r.position (view r.array.value) (view r.index.value) r.tpe = ap view (r.is ∙ sym (rolls-ArraySelect r.position r.array r.index r.tpe)) ∙ fold-roll-Tree Term Case view_step case_step (Tree-F.ArraySelect r.position r.array r.index r.tpe) in
    let rest : c.are_both-rest.result ≡ (is_plain (view r.index.value) && a.rest_is_plain) = c.are_both-rest.ensures ∙ ap (λ b. b && a.rest_is_plain) (subst (λ (x : Tree). c.is_plain-index_plain.result ≡ is_plain (view x)) c.deref-in-ArraySelect.ensures c.is_plain-index_plain.ensures) in
    subst (λ x. IfOk c.receiver_of-in-ArraySelect.result (λ p. placed_view p ≡ x)) ((λ i. comes_received m s ls (rest i) a.next (view (c.deref-in-ArraySelect-2.ensures i))) ∙ sym (ap (owner_place m s ls a.rest_is_plain a.next) there)) c.receiver_of-in-ArraySelect.ensures

pub index_of-returns-in-ArraySelect : goal.index_of-returns-in-ArraySelect
index_of-returns-in-ArraySelect t c =
    let r = c.in-ArraySelect in
    let a = c.args in
    let m = is_among a.locals.now.mutable.now in
    let s = is_among a.locals.now.sure.now in
    let ls = map target_view a.targets.now in
    let there : view a.target.now ≡ array_select r.position (view r.array.value) (view r.index.value) r.tpe = ap view (r.is ∙ sym (rolls-ArraySelect r.position r.array r.index r.tpe)) ∙ fold-roll-Tree Term Case view_step case_step (Tree-F.ArraySelect r.position r.array r.index r.tpe) in
    subst (λ x. IfOk c.operand_of.result (λ p. placed_view p ≡ x)) (ap (λ (x : Tree). comes_to m s ls a.rest_is_plain a.next (view x)) c.deref.ensures ∙ sym (ap (index_place m s ls a.rest_is_plain a.next) there)) c.operand_of.ensures

pub assignment_of-returns-in_ok-new_value-in-VarRef : goal.assignment_of-returns-in_ok-new_value-in-VarRef
assignment_of-returns-in_ok-new_value-in-VarRef t c =
    let r = c.in-VarRef in
    let a = c.args in
    let m = is_among a.locals.now.mutable.now in
    let s = is_among a.locals.now.sure.now in
    let ls = map target_view a.targets.now in
    let e = view a.value.now in
    let there : view a.target.now ≡ var_ref r.position r.name r.tpe = ap view (r.is ∙ sym (rolls-VarRef r.position r.name r.tpe)) ∙ fold-roll-Tree Term Case view_step case_step (Tree-F.VarRef r.position r.name r.tpe) in
    subst (λ x. IfOk c.assigned.result (λ w. code_view w ≡ x)) ((λ i. behind (c.in_ok-new_value-in-VarRef.ensures i) (λ g. one (assign_to (Some a.position) (named r.name) (coerced r.tpe (type_of_term e) g)))) ∙ sym (ap (λ x. assigned_code m s ls a.next a.position x e (placed_view a.owner) (placed_view a.index)) there)) c.assigned.ensures

pub assignment_of-returns-in_ok-new_value-in-Select : goal.assignment_of-returns-in_ok-new_value-in-Select
assignment_of-returns-in_ok-new_value-in-Select t c =
    let r = c.in-Select in
    let a = c.args in
    let m = is_among a.locals.now.mutable.now in
    let s = is_among a.locals.now.sure.now in
    let ls = map target_view a.targets.now in
    let e = view a.value.now in
    let there : view a.target.now ≡ select r.position (view r.object.value) r.class r.name r.tpe = ap view (r.is ∙ sym (rolls-Select r.position r.object r.class r.name r.tpe)) ∙ fold-roll-Tree Term Case view_step case_step (Tree-F.Select r.position r.object r.class r.name r.tpe) in
    subst (λ x. IfOk c.field_set.result (λ w. code_view w ≡ x)) ((λ i. behind (placed_view a.owner) (λ g x. behind (c.in_ok-new_value-in-Select.ensures i) (λ h. one (core.assign_field (Some a.position) g r.class r.name (coerced r.tpe (type_of_term e) h))))) ∙ sym (ap (λ x. assigned_code m s ls a.next a.position x e (placed_view a.owner) (placed_view a.index)) there)) c.field_set.ensures

pub assignment_of-returns-in_ok-new_value-in-SelectStatic : goal.assignment_of-returns-in_ok-new_value-in-SelectStatic
assignment_of-returns-in_ok-new_value-in-SelectStatic t c =
    let r = c.in-SelectStatic in
    let a = c.args in
    let m = is_among a.locals.now.mutable.now in
    let s = is_among a.locals.now.sure.now in
    let ls = map target_view a.targets.now in
    let e = view a.value.now in
    let there : view a.target.now ≡ select_static r.position r.class r.name r.tpe = ap view (r.is ∙ sym (rolls-SelectStatic r.position r.class r.name r.tpe)) ∙ fold-roll-Tree Term Case view_step case_step (Tree-F.SelectStatic r.position r.class r.name r.tpe) in
    subst (λ x. IfOk c.static_set.result (λ w. code_view w ≡ x)) ((λ i. behind (c.in_ok-new_value-in-SelectStatic.ensures i) (λ g. one (core.assign_static (Some a.position) r.class r.name (coerced r.tpe (type_of_term e) g)))) ∙ sym (ap (λ x. assigned_code m s ls a.next a.position x e (placed_view a.owner) (placed_view a.index)) there)) c.static_set.ensures

pub assignment_of-returns-in_ok-new_value-in-ArraySelect : goal.assignment_of-returns-in_ok-new_value-in-ArraySelect
assignment_of-returns-in_ok-new_value-in-ArraySelect t c =
    let r = c.in-ArraySelect in
    let a = c.args in
    let m = is_among a.locals.now.mutable.now in
    let s = is_among a.locals.now.sure.now in
    let ls = map target_view a.targets.now in
    let e = view a.value.now in
    let there : view a.target.now ≡ array_select r.position (view r.array.value) (view r.index.value) r.tpe = ap view (r.is ∙ sym (rolls-ArraySelect r.position r.array r.index r.tpe)) ∙ fold-roll-Tree Term Case view_step case_step (Tree-F.ArraySelect r.position r.array r.index r.tpe) in
    subst (λ x. IfOk c.element_set.result (λ w. code_view w ≡ x)) ((λ i. behind (placed_view a.owner) (λ g n. behind (placed_view a.index) (λ h x. behind (c.in_ok-new_value-in-ArraySelect.ensures i) (λ v. one (core.assign_element (Some a.position) r.tpe g h (coerced r.tpe (type_of_term e) v)))))) ∙ sym (ap (λ x. assigned_code m s ls a.next a.position x e (placed_view a.owner) (placed_view a.index)) there)) c.element_set.ensures

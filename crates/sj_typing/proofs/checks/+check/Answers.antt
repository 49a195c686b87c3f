use Rattle.std.proofs.Common.{◌≡◌, ◌∙◌, ◌+◌, ap, sym, arith, drop}
use Rattle.std.proofs.lemmas.Result.{err_from_is_err_and}
use Rattle.sj_trees.proofs.trees.Tree.TheLaws.{the_size}
use Rattle.sj_trees.specs.declared.trees.Tree.TheViews.{sized-Match, sized-Apply, sized-ApplyStatically}
use Rattle.sj_trees.specs.Term.{Term, more_terms, more_cases, var_def, block_of, labeled, assign, return_to, if_then, while_loop, do_while, try_catch, try_finally, throw, match_on, new_object, store_module, select, apply, apply_statically, apply_static, unary_op, binary_op, new_array, array_value, array_length, array_select, is_instance_of, as_instance_of, log_line}
use Rattle.sj_trees.specs.View.{view, view_case, terms_view, cases_view, view_step, case_step, Case}
use Rattle.sj_trees.specs.declared.trees.Tree.TheOpen.{Tree-F}
use Rattle.sj_trees.specs.declared.trees.Tree.TheFolds.{fold-roll-Tree}
use Rattle.sj_trees.specs.declared.trees.Tree.TheVariants as tree
use Rattle.sj_ask.specs.Answers.{IsAnswer}
use Rattle.sj_typing_spec.proofs.Steps.{as_both, as_both_stop, as_met, as_met_stop, seen-behind, seen-numbered}
use Rattle.sj_typing_spec.proofs.Leaves.{at_leaf}
use Rattle.sj_typing_spec.proofs.Loops.{terms-dropped, cases-dropped, terms-ended, cases-ended, all_next, cases_next, all_on, all_no, all_end, cases_on, cases_no, cases_end}
use Rattle.sj_typing.proofs.checks.+check.Goals as goal

pub check_parts-returns-in-VarDef-clause-ran : goal.check_parts-returns-in-VarDef-clause-ran
check_parts-returns-in-VarDef-clause-ran g t c =
    let n = c.in-VarDef in
    let v : view c.args.tree.now ≡ var_def n.position n.name n.tpe n.mutable (view n.one.value) = ap view (n.is ∙ sym (tree.rolls-VarDef n.position n.name n.tpe n.mutable n.one)) ∙ fold-roll-Tree Term Case view_step case_step (Tree-F.VarDef n.position n.name n.tpe n.mutable n.one) in
    rw (v, ← c.deref.ensures) c.check.ensures.ran

pub check_parts-returns-in-Block-clause-ran : goal.check_parts-returns-in-Block-clause-ran
check_parts-returns-in-Block-clause-ran g t c =
    let n = c.in-Block in
    let v : view c.args.tree.now ≡ block_of n.position (terms_view n.trees.items) = ap view (n.is ∙ sym (tree.rolls-Block n.position n.trees)) ∙ fold-roll-Tree Term Case view_step case_step (Tree-F.Block n.position n.trees) in
    rw (v, ← c.deref-in-Block.ensures.value) c.check_all.ensures.ran

pub check_parts-returns-in-Labeled-clause-ran : goal.check_parts-returns-in-Labeled-clause-ran
check_parts-returns-in-Labeled-clause-ran g t c =
    let n = c.in-Labeled in
    let v : view c.args.tree.now ≡ labeled n.position n.label n.tpe (view n.body.value) = ap view (n.is ∙ sym (tree.rolls-Labeled n.position n.label n.tpe n.body)) ∙ fold-roll-Tree Term Case view_step case_step (Tree-F.Labeled n.position n.label n.tpe n.body) in
    rw (v, ← c.deref-in-Labeled.ensures) c.check_labeled.ensures.ran

pub check_parts-returns-in_err-first-in-Assign-clause-ran : goal.check_parts-returns-in_err-first-in-Assign-clause-ran
check_parts-returns-in_err-first-in-Assign-clause-ran g t c =
    let n = c.in-Assign in
    let v : view c.args.tree.now ≡ assign n.position (view n.one.value) (view n.two.value) = ap view (n.is ∙ sym (tree.rolls-Assign n.position n.one n.two)) ∙ fold-roll-Tree Term Case view_step case_step (Tree-F.Assign n.position n.one n.two) in
    let p = err_from_is_err_and c.from_residual.result c.from_residual.ensures.1 in
    rw (p.1, p.2, v, ← c.deref-in-Assign.ensures) (as_both_stop _ _ _ _ _ _ c.in_err-first-in-Assign.ensures.ran)

pub check_parts-returns-in_ok-first-in-Assign-clause-ran : goal.check_parts-returns-in_ok-first-in-Assign-clause-ran
check_parts-returns-in_ok-first-in-Assign-clause-ran g t c =
    let n = c.in-Assign in
    let v : view c.args.tree.now ≡ assign n.position (view n.one.value) (view n.two.value) = ap view (n.is ∙ sym (tree.rolls-Assign n.position n.one n.two)) ∙ fold-roll-Tree Term Case view_step case_step (Tree-F.Assign n.position n.one n.two) in
    let f = c.in_ok-first-in-Assign in
    let h = rw (f.ensures.stand, f.ensures.labels, f.ensures.next) at c.check-second.ensures.ran in
    rw (c.behind.ensures, seen-behind f.first c.check-second.result, v, ← c.deref-in-Assign.ensures, ← c.deref-in-Assign-2.ensures) (as_both _ _ _ _ _ _ _ _ f.ensures.ran h)

pub check_parts-returns-in-Return-clause-ran : goal.check_parts-returns-in-Return-clause-ran
check_parts-returns-in-Return-clause-ran g t c =
    let n = c.in-Return in
    let v : view c.args.tree.now ≡ return_to n.position (view n.one.value) n.label = ap view (n.is ∙ sym (tree.rolls-Return n.position n.one n.label)) ∙ fold-roll-Tree Term Case view_step case_step (Tree-F.Return n.position n.one n.label) in
    rw (v, ← c.deref-in-Return.ensures) c.check-in-Return.ensures.ran

pub check_parts-returns-in_err-first-in-If-clause-ran : goal.check_parts-returns-in_err-first-in-If-clause-ran
check_parts-returns-in_err-first-in-If-clause-ran g t c =
    let n = c.in-If in
    let v : view c.args.tree.now ≡ if_then n.position (view n.condition.value) (view n.yes.value) (view n.no.value) n.tpe = ap view (n.is ∙ sym (tree.rolls-If n.position n.condition n.yes n.no n.tpe)) ∙ fold-roll-Tree Term Case view_step case_step (Tree-F.If n.position n.condition n.yes n.no n.tpe) in
    let p = err_from_is_err_and c.from_residual-in_err-first-in-If.result c.from_residual-in_err-first-in-If.ensures.1 in
    rw (p.1, p.2, v, ← c.deref-in-If.ensures) (as_both_stop _ _ _ _ _ _ c.in_err-first-in-If.ensures.ran)

pub check_parts-returns-in_err-second-in-If-clause-ran : goal.check_parts-returns-in_err-second-in-If-clause-ran
check_parts-returns-in_err-second-in-If-clause-ran g t c =
    let n = c.in-If in
    let v : view c.args.tree.now ≡ if_then n.position (view n.condition.value) (view n.yes.value) (view n.no.value) n.tpe = ap view (n.is ∙ sym (tree.rolls-If n.position n.condition n.yes n.no n.tpe)) ∙ fold-roll-Tree Term Case view_step case_step (Tree-F.If n.position n.condition n.yes n.no n.tpe) in
    let f = c.in_ok-first-in-If in
    let p = err_from_is_err_and c.from_residual-in_err-second-in-If.result c.from_residual-in_err-second-in-If.ensures.1 in
    let h = rw (f.ensures.stand, f.ensures.labels, f.ensures.next) at c.in_err-second-in-If.ensures.ran in
    rw (p.1, p.2, v, ← c.deref-in-If.ensures, ← c.deref-in-If-2.ensures) (as_both _ _ _ _ _ _ _ _ f.ensures.ran (as_both_stop _ _ _ _ _ _ h))

pub check_parts-returns-in_ok-second-in-If-clause-ran : goal.check_parts-returns-in_ok-second-in-If-clause-ran
check_parts-returns-in_ok-second-in-If-clause-ran g t c =
    let n = c.in-If in
    let v : view c.args.tree.now ≡ if_then n.position (view n.condition.value) (view n.yes.value) (view n.no.value) n.tpe = ap view (n.is ∙ sym (tree.rolls-If n.position n.condition n.yes n.no n.tpe)) ∙ fold-roll-Tree Term Case view_step case_step (Tree-F.If n.position n.condition n.yes n.no n.tpe) in
    let f = c.in_ok-first-in-If in
    let s = c.in_ok-second-in-If in
    let h = rw (f.ensures.stand, f.ensures.labels, f.ensures.next) at s.ensures.ran in
    let i = rw (s.ensures.stand, s.ensures.labels, s.ensures.next, f.ensures.stand, f.ensures.labels, f.ensures.next) at c.check-third.ensures.ran in
    rw (c.behind-in-If-2.ensures, c.behind-in-If.ensures, seen-behind _ _, seen-behind _ _, v, ← c.deref-in-If.ensures, ← c.deref-in-If-2.ensures, ← c.deref-in-If-3.ensures) (as_both _ _ _ _ _ _ _ _ f.ensures.ran (as_both _ _ _ _ _ _ _ _ h i))

pub check_parts-returns-in_err-first-in-While-clause-ran : goal.check_parts-returns-in_err-first-in-While-clause-ran
check_parts-returns-in_err-first-in-While-clause-ran g t c =
    let n = c.in-While in
    let v : view c.args.tree.now ≡ while_loop n.position (view n.one.value) (view n.two.value) = ap view (n.is ∙ sym (tree.rolls-While n.position n.one n.two)) ∙ fold-roll-Tree Term Case view_step case_step (Tree-F.While n.position n.one n.two) in
    let p = err_from_is_err_and c.from_residual-in_err-first-in-While.result c.from_residual-in_err-first-in-While.ensures.1 in
    rw (p.1, p.2, v, ← c.deref-in-While.ensures) (as_both_stop _ _ _ _ _ _ c.in_err-first-in-While.ensures.ran)

pub check_parts-returns-in_ok-first-in-While-clause-ran : goal.check_parts-returns-in_ok-first-in-While-clause-ran
check_parts-returns-in_ok-first-in-While-clause-ran g t c =
    let n = c.in-While in
    let v : view c.args.tree.now ≡ while_loop n.position (view n.one.value) (view n.two.value) = ap view (n.is ∙ sym (tree.rolls-While n.position n.one n.two)) ∙ fold-roll-Tree Term Case view_step case_step (Tree-F.While n.position n.one n.two) in
    let f = c.in_ok-first-in-While in
    let h = rw (f.ensures.stand, f.ensures.labels, f.ensures.next) at c.check-second-in-While.ensures.ran in
    rw (c.behind-in-While.ensures, seen-behind f.first c.check-second-in-While.result, v, ← c.deref-in-While.ensures, ← c.deref-in-While-2.ensures) (as_both _ _ _ _ _ _ _ _ f.ensures.ran h)

pub check_parts-returns-in_err-first-in-DoWhile-clause-ran : goal.check_parts-returns-in_err-first-in-DoWhile-clause-ran
check_parts-returns-in_err-first-in-DoWhile-clause-ran g t c =
    let n = c.in-DoWhile in
    let v : view c.args.tree.now ≡ do_while n.position (view n.one.value) (view n.two.value) = ap view (n.is ∙ sym (tree.rolls-DoWhile n.position n.one n.two)) ∙ fold-roll-Tree Term Case view_step case_step (Tree-F.DoWhile n.position n.one n.two) in
    let p = err_from_is_err_and c.from_residual-in_err-first-in-DoWhile.result c.from_residual-in_err-first-in-DoWhile.ensures.1 in
    rw (p.1, p.2, v, ← c.deref-in-DoWhile.ensures) (as_both_stop _ _ _ _ _ _ c.in_err-first-in-DoWhile.ensures.ran)

pub check_parts-returns-in_ok-first-in-DoWhile-clause-ran : goal.check_parts-returns-in_ok-first-in-DoWhile-clause-ran
check_parts-returns-in_ok-first-in-DoWhile-clause-ran g t c =
    let n = c.in-DoWhile in
    let v : view c.args.tree.now ≡ do_while n.position (view n.one.value) (view n.two.value) = ap view (n.is ∙ sym (tree.rolls-DoWhile n.position n.one n.two)) ∙ fold-roll-Tree Term Case view_step case_step (Tree-F.DoWhile n.position n.one n.two) in
    let f = c.in_ok-first-in-DoWhile in
    let h = rw (f.ensures.stand, f.ensures.labels, f.ensures.next) at c.check-second-in-DoWhile.ensures.ran in
    rw (c.behind-in-DoWhile.ensures, seen-behind f.first c.check-second-in-DoWhile.result, v, ← c.deref-in-DoWhile.ensures, ← c.deref-in-DoWhile-2.ensures) (as_both _ _ _ _ _ _ _ _ f.ensures.ran h)

pub check_parts-returns-in_err-first-in-TryCatch-clause-ran : goal.check_parts-returns-in_err-first-in-TryCatch-clause-ran
check_parts-returns-in_err-first-in-TryCatch-clause-ran g t c =
    let n = c.in-TryCatch in
    let v : view c.args.tree.now ≡ try_catch n.position (view n.one.value) n.name (view n.two.value) n.tpe = ap view (n.is ∙ sym (tree.rolls-TryCatch n.position n.one n.name n.two n.tpe)) ∙ fold-roll-Tree Term Case view_step case_step (Tree-F.TryCatch n.position n.one n.name n.two n.tpe) in
    let p = err_from_is_err_and c.from_residual-in_err-first-in-TryCatch.result c.from_residual-in_err-first-in-TryCatch.ensures.1 in
    rw (p.1, p.2, v, ← c.deref-in-TryCatch.ensures) (as_both_stop _ _ _ _ _ _ c.in_err-first-in-TryCatch.ensures.ran)

pub check_parts-returns-in_ok-first-in-TryCatch-clause-ran : goal.check_parts-returns-in_ok-first-in-TryCatch-clause-ran
check_parts-returns-in_ok-first-in-TryCatch-clause-ran g t c =
    let n = c.in-TryCatch in
    let v : view c.args.tree.now ≡ try_catch n.position (view n.one.value) n.name (view n.two.value) n.tpe = ap view (n.is ∙ sym (tree.rolls-TryCatch n.position n.one n.name n.two n.tpe)) ∙ fold-roll-Tree Term Case view_step case_step (Tree-F.TryCatch n.position n.one n.name n.two n.tpe) in
    let f = c.in_ok-first-in-TryCatch in
    let h = rw (f.ensures.stand, f.ensures.labels, f.ensures.next) at c.check-second-in-TryCatch.ensures.ran in
    rw (c.behind-in-TryCatch.ensures, seen-behind f.first c.check-second-in-TryCatch.result, v, ← c.deref-in-TryCatch.ensures, ← c.deref-in-TryCatch-2.ensures) (as_both _ _ _ _ _ _ _ _ f.ensures.ran h)

pub check_parts-returns-in_err-first-in-TryFinally-clause-ran : goal.check_parts-returns-in_err-first-in-TryFinally-clause-ran
check_parts-returns-in_err-first-in-TryFinally-clause-ran g t c =
    let n = c.in-TryFinally in
    let v : view c.args.tree.now ≡ try_finally n.position (view n.one.value) (view n.two.value) = ap view (n.is ∙ sym (tree.rolls-TryFinally n.position n.one n.two)) ∙ fold-roll-Tree Term Case view_step case_step (Tree-F.TryFinally n.position n.one n.two) in
    let p = err_from_is_err_and c.from_residual-in_err-first-in-TryFinally.result c.from_residual-in_err-first-in-TryFinally.ensures.1 in
    rw (p.1, p.2, v, ← c.deref-in-TryFinally.ensures) (as_both_stop _ _ _ _ _ _ c.in_err-first-in-TryFinally.ensures.ran)

pub check_parts-returns-in_ok-first-in-TryFinally-clause-ran : goal.check_parts-returns-in_ok-first-in-TryFinally-clause-ran
check_parts-returns-in_ok-first-in-TryFinally-clause-ran g t c =
    let n = c.in-TryFinally in
    let v : view c.args.tree.now ≡ try_finally n.position (view n.one.value) (view n.two.value) = ap view (n.is ∙ sym (tree.rolls-TryFinally n.position n.one n.two)) ∙ fold-roll-Tree Term Case view_step case_step (Tree-F.TryFinally n.position n.one n.two) in
    let f = c.in_ok-first-in-TryFinally in
    let h = rw (f.ensures.stand, f.ensures.labels, f.ensures.next) at c.check-second-in-TryFinally.ensures.ran in
    rw (c.behind-in-TryFinally.ensures, seen-behind f.first c.check-second-in-TryFinally.result, v, ← c.deref-in-TryFinally.ensures, ← c.deref-in-TryFinally-2.ensures) (as_both _ _ _ _ _ _ _ _ f.ensures.ran h)

pub check_parts-returns-in-Throw-clause-ran : goal.check_parts-returns-in-Throw-clause-ran
check_parts-returns-in-Throw-clause-ran g t c =
    let n = c.in-Throw in
    let v : view c.args.tree.now ≡ throw n.position (view n.one.value) = ap view (n.is ∙ sym (tree.rolls-Throw n.position n.one)) ∙ fold-roll-Tree Term Case view_step case_step (Tree-F.Throw n.position n.one) in
    rw (v, ← c.deref-in-Throw.ensures) c.check-in-Throw.ensures.ran

pub check_parts-returns-in_err-first-in-Match-clause-ran : goal.check_parts-returns-in_err-first-in-Match-clause-ran
check_parts-returns-in_err-first-in-Match-clause-ran g t c =
    let n = c.in-Match in
    let v : view c.args.tree.now ≡ match_on n.position (view n.selector.value) (cases_view n.cases.items) (view n.default.value) n.tpe = ap view (n.is ∙ sym (tree.rolls-Match n.position n.selector n.cases n.default n.tpe)) ∙ fold-roll-Tree Term Case view_step case_step (Tree-F.Match n.position n.selector n.cases n.default n.tpe) in
    let p = err_from_is_err_and c.from_residual-in_err-first-in-Match.result c.from_residual-in_err-first-in-Match.ensures.1 in
    rw (p.1, p.2, v, ← c.deref-in-Match.ensures) (as_both_stop _ _ _ _ _ _ c.in_err-first-in-Match.ensures.ran)

pub check_parts-returns-in_err-second-in-Match-clause-ran : goal.check_parts-returns-in_err-second-in-Match-clause-ran
check_parts-returns-in_err-second-in-Match-clause-ran g t c =
    let n = c.in-Match in
    let v : view c.args.tree.now ≡ match_on n.position (view n.selector.value) (cases_view n.cases.items) (view n.default.value) n.tpe = ap view (n.is ∙ sym (tree.rolls-Match n.position n.selector n.cases n.default n.tpe)) ∙ fold-roll-Tree Term Case view_step case_step (Tree-F.Match n.position n.selector n.cases n.default n.tpe) in
    let f = c.in_ok-first-in-Match in
    let p = err_from_is_err_and c.from_residual-in_err-second-in-Match.result c.from_residual-in_err-second-in-Match.ensures.1 in
    let h = rw (f.ensures.stand, f.ensures.labels, f.ensures.next) at c.in_err-second-in-Match.ensures.ran in
    rw (p.1, p.2, v, ← c.deref-in-Match.ensures, ← c.deref-in-Match-2.ensures.value) (as_both _ _ _ _ _ _ _ _ f.ensures.ran (as_both_stop _ _ _ _ _ _ h))

pub check_parts-returns-in_ok-second-in-Match-clause-ran : goal.check_parts-returns-in_ok-second-in-Match-clause-ran
check_parts-returns-in_ok-second-in-Match-clause-ran g t c =
    let n = c.in-Match in
    let v : view c.args.tree.now ≡ match_on n.position (view n.selector.value) (cases_view n.cases.items) (view n.default.value) n.tpe = ap view (n.is ∙ sym (tree.rolls-Match n.position n.selector n.cases n.default n.tpe)) ∙ fold-roll-Tree Term Case view_step case_step (Tree-F.Match n.position n.selector n.cases n.default n.tpe) in
    let f = c.in_ok-first-in-Match in
    let s = c.in_ok-second-in-Match in
    let h = rw (f.ensures.stand, f.ensures.labels, f.ensures.next) at s.ensures.ran in
    let i = rw (s.ensures.stand, s.ensures.labels, s.ensures.next, f.ensures.stand, f.ensures.labels, f.ensures.next) at c.check-third-in-Match.ensures.ran in
    rw (c.behind-in-Match-2.ensures, c.behind-in-Match.ensures, seen-behind _ _, seen-behind _ _, v, ← c.deref-in-Match.ensures, ← c.deref-in-Match-2.ensures.value, ← c.deref-in-Match-3.ensures) (as_both _ _ _ _ _ _ _ _ f.ensures.ran (as_both _ _ _ _ _ _ _ _ h i))

pub check_parts-returns-in-New-clause-ran : goal.check_parts-returns-in-New-clause-ran
check_parts-returns-in-New-clause-ran g t c =
    let n = c.in-New in
    let v : view c.args.tree.now ≡ new_object n.position n.class n.constructor (terms_view n.trees.items) = ap view (n.is ∙ sym (tree.rolls-New n.position n.class n.constructor n.trees)) ∙ fold-roll-Tree Term Case view_step case_step (Tree-F.New n.position n.class n.constructor n.trees) in
    rw (v, ← c.deref-in-New.ensures.value) c.check_all-in-New.ensures.ran

pub check_parts-returns-in-StoreModule-clause-ran : goal.check_parts-returns-in-StoreModule-clause-ran
check_parts-returns-in-StoreModule-clause-ran g t c =
    let n = c.in-StoreModule in
    let v : view c.args.tree.now ≡ store_module n.position n.class (view n.one.value) = ap view (n.is ∙ sym (tree.rolls-StoreModule n.position n.class n.one)) ∙ fold-roll-Tree Term Case view_step case_step (Tree-F.StoreModule n.position n.class n.one) in
    rw (v, ← c.deref-in-StoreModule.ensures) c.check-in-StoreModule.ensures.ran

pub check_parts-returns-in-Select-clause-ran : goal.check_parts-returns-in-Select-clause-ran
check_parts-returns-in-Select-clause-ran g t c =
    let n = c.in-Select in
    let v : view c.args.tree.now ≡ select n.position (view n.one.value) n.class n.field n.tpe = ap view (n.is ∙ sym (tree.rolls-Select n.position n.one n.class n.field n.tpe)) ∙ fold-roll-Tree Term Case view_step case_step (Tree-F.Select n.position n.one n.class n.field n.tpe) in
    rw (v, ← c.deref-in-Select.ensures) c.check-in-Select.ensures.ran

pub check_parts-returns-in_err-first-in-Apply-clause-ran : goal.check_parts-returns-in_err-first-in-Apply-clause-ran
check_parts-returns-in_err-first-in-Apply-clause-ran g t c =
    let n = c.in-Apply in
    let v : view c.args.tree.now ≡ apply n.position (view n.receiver.value) n.method (terms_view n.trees.items) n.tpe = ap view (n.is ∙ sym (tree.rolls-Apply n.position n.receiver n.method n.trees n.tpe)) ∙ fold-roll-Tree Term Case view_step case_step (Tree-F.Apply n.position n.receiver n.method n.trees n.tpe) in
    let p = err_from_is_err_and c.from_residual-in_err-first-in-Apply.result c.from_residual-in_err-first-in-Apply.ensures.1 in
    rw (p.1, p.2, v, ← c.deref-in-Apply.ensures) (as_both_stop _ _ _ _ _ _ c.in_err-first-in-Apply.ensures.ran)

pub check_parts-returns-in_ok-first-in-Apply-clause-ran : goal.check_parts-returns-in_ok-first-in-Apply-clause-ran
check_parts-returns-in_ok-first-in-Apply-clause-ran g t c =
    let n = c.in-Apply in
    let v : view c.args.tree.now ≡ apply n.position (view n.receiver.value) n.method (terms_view n.trees.items) n.tpe = ap view (n.is ∙ sym (tree.rolls-Apply n.position n.receiver n.method n.trees n.tpe)) ∙ fold-roll-Tree Term Case view_step case_step (Tree-F.Apply n.position n.receiver n.method n.trees n.tpe) in
    let f = c.in_ok-first-in-Apply in
    let h = rw (f.ensures.stand, f.ensures.labels, f.ensures.next) at c.check_all-second.ensures.ran in
    rw (c.behind-in-Apply.ensures, seen-behind f.first c.check_all-second.result, v, ← c.deref-in-Apply.ensures, ← c.deref-in-Apply-2.ensures.value) (as_both _ _ _ _ _ _ _ _ f.ensures.ran h)

pub check_parts-returns-in_err-first-in-ApplyStatically-clause-ran : goal.check_parts-returns-in_err-first-in-ApplyStatically-clause-ran
check_parts-returns-in_err-first-in-ApplyStatically-clause-ran g t c =
    let n = c.in-ApplyStatically in
    let v : view c.args.tree.now ≡ apply_statically n.position (view n.receiver.value) n.class n.namespace n.method (terms_view n.trees.items) n.tpe = ap view (n.is ∙ sym (tree.rolls-ApplyStatically n.position n.receiver n.class n.namespace n.method n.trees n.tpe)) ∙ fold-roll-Tree Term Case view_step case_step (Tree-F.ApplyStatically n.position n.receiver n.class n.namespace n.method n.trees n.tpe) in
    let p = err_from_is_err_and c.from_residual-in_err-first-in-ApplyStatically.result c.from_residual-in_err-first-in-ApplyStatically.ensures.1 in
    rw (p.1, p.2, v, ← c.deref-in-ApplyStatically.ensures) (as_both_stop _ _ _ _ _ _ c.in_err-first-in-ApplyStatically.ensures.ran)

pub check_parts-returns-in_ok-first-in-ApplyStatically-clause-ran : goal.check_parts-returns-in_ok-first-in-ApplyStatically-clause-ran
check_parts-returns-in_ok-first-in-ApplyStatically-clause-ran g t c =
    let n = c.in-ApplyStatically in
    let v : view c.args.tree.now ≡ apply_statically n.position (view n.receiver.value) n.class n.namespace n.method (terms_view n.trees.items) n.tpe = ap view (n.is ∙ sym (tree.rolls-ApplyStatically n.position n.receiver n.class n.namespace n.method n.trees n.tpe)) ∙ fold-roll-Tree Term Case view_step case_step (Tree-F.ApplyStatically n.position n.receiver n.class n.namespace n.method n.trees n.tpe) in
    let f = c.in_ok-first-in-ApplyStatically in
    let h = rw (f.ensures.stand, f.ensures.labels, f.ensures.next) at c.check_all-second-in-ApplyStatically.ensures.ran in
    rw (c.behind-in-ApplyStatically.ensures, seen-behind f.first c.check_all-second-in-ApplyStatically.result, v, ← c.deref-in-ApplyStatically.ensures, ← c.deref-in-ApplyStatically-2.ensures.value) (as_both _ _ _ _ _ _ _ _ f.ensures.ran h)

pub check_parts-returns-in-ApplyStatic-clause-ran : goal.check_parts-returns-in-ApplyStatic-clause-ran
check_parts-returns-in-ApplyStatic-clause-ran g t c =
    let n = c.in-ApplyStatic in
    let v : view c.args.tree.now ≡ apply_static n.position n.class n.namespace n.method (terms_view n.trees.items) n.tpe = ap view (n.is ∙ sym (tree.rolls-ApplyStatic n.position n.class n.namespace n.method n.trees n.tpe)) ∙ fold-roll-Tree Term Case view_step case_step (Tree-F.ApplyStatic n.position n.class n.namespace n.method n.trees n.tpe) in
    rw (v, ← c.deref-in-ApplyStatic.ensures.value) c.check_all-in-ApplyStatic.ensures.ran

pub check_parts-returns-in-UnaryOp-clause-ran : goal.check_parts-returns-in-UnaryOp-clause-ran
check_parts-returns-in-UnaryOp-clause-ran g t c =
    let n = c.in-UnaryOp in
    let v : view c.args.tree.now ≡ unary_op n.position n.operator (view n.one.value) = ap view (n.is ∙ sym (tree.rolls-UnaryOp n.position n.operator n.one)) ∙ fold-roll-Tree Term Case view_step case_step (Tree-F.UnaryOp n.position n.operator n.one) in
    rw (v, ← c.deref-in-UnaryOp.ensures) c.check-in-UnaryOp.ensures.ran

pub check_parts-returns-in_err-first-in-BinaryOp-clause-ran : goal.check_parts-returns-in_err-first-in-BinaryOp-clause-ran
check_parts-returns-in_err-first-in-BinaryOp-clause-ran g t c =
    let n = c.in-BinaryOp in
    let v : view c.args.tree.now ≡ binary_op n.position n.operator (view n.one.value) (view n.two.value) = ap view (n.is ∙ sym (tree.rolls-BinaryOp n.position n.operator n.one n.two)) ∙ fold-roll-Tree Term Case view_step case_step (Tree-F.BinaryOp n.position n.operator n.one n.two) in
    let p = err_from_is_err_and c.from_residual-in_err-first-in-BinaryOp.result c.from_residual-in_err-first-in-BinaryOp.ensures.1 in
    rw (p.1, p.2, v, ← c.deref-in-BinaryOp.ensures) (as_both_stop _ _ _ _ _ _ c.in_err-first-in-BinaryOp.ensures.ran)

pub check_parts-returns-in_ok-first-in-BinaryOp-clause-ran : goal.check_parts-returns-in_ok-first-in-BinaryOp-clause-ran
check_parts-returns-in_ok-first-in-BinaryOp-clause-ran g t c =
    let n = c.in-BinaryOp in
    let v : view c.args.tree.now ≡ binary_op n.position n.operator (view n.one.value) (view n.two.value) = ap view (n.is ∙ sym (tree.rolls-BinaryOp n.position n.operator n.one n.two)) ∙ fold-roll-Tree Term Case view_step case_step (Tree-F.BinaryOp n.position n.operator n.one n.two) in
    let f = c.in_ok-first-in-BinaryOp in
    let h = rw (f.ensures.stand, f.ensures.labels, f.ensures.next) at c.check-second-in-BinaryOp.ensures.ran in
    rw (c.behind-in-BinaryOp.ensures, seen-behind f.first c.check-second-in-BinaryOp.result, v, ← c.deref-in-BinaryOp.ensures, ← c.deref-in-BinaryOp-2.ensures) (as_both _ _ _ _ _ _ _ _ f.ensures.ran h)

pub check_parts-returns-in-NewArray-clause-ran : goal.check_parts-returns-in-NewArray-clause-ran
check_parts-returns-in-NewArray-clause-ran g t c =
    let n = c.in-NewArray in
    let v : view c.args.tree.now ≡ new_array n.position n.array (view n.one.value) = ap view (n.is ∙ sym (tree.rolls-NewArray n.position n.array n.one)) ∙ fold-roll-Tree Term Case view_step case_step (Tree-F.NewArray n.position n.array n.one) in
    rw (v, ← c.deref-in-NewArray.ensures) c.check-in-NewArray.ensures.ran

pub check_parts-returns-in-ArrayValue-clause-ran : goal.check_parts-returns-in-ArrayValue-clause-ran
check_parts-returns-in-ArrayValue-clause-ran g t c =
    let n = c.in-ArrayValue in
    let v : view c.args.tree.now ≡ array_value n.position n.array (terms_view n.trees.items) = ap view (n.is ∙ sym (tree.rolls-ArrayValue n.position n.array n.trees)) ∙ fold-roll-Tree Term Case view_step case_step (Tree-F.ArrayValue n.position n.array n.trees) in
    rw (v, ← c.deref-in-ArrayValue.ensures.value) c.check_all-in-ArrayValue.ensures.ran

pub check_parts-returns-in-ArrayLength-clause-ran : goal.check_parts-returns-in-ArrayLength-clause-ran
check_parts-returns-in-ArrayLength-clause-ran g t c =
    let n = c.in-ArrayLength in
    let v : view c.args.tree.now ≡ array_length n.position (view n.one.value) = ap view (n.is ∙ sym (tree.rolls-ArrayLength n.position n.one)) ∙ fold-roll-Tree Term Case view_step case_step (Tree-F.ArrayLength n.position n.one) in
    rw (v, ← c.deref-in-ArrayLength.ensures) c.check-in-ArrayLength.ensures.ran

pub check_parts-returns-in_err-first-in-ArraySelect-clause-ran : goal.check_parts-returns-in_err-first-in-ArraySelect-clause-ran
check_parts-returns-in_err-first-in-ArraySelect-clause-ran g t c =
    let n = c.in-ArraySelect in
    let v : view c.args.tree.now ≡ array_select n.position (view n.one.value) (view n.two.value) n.tpe = ap view (n.is ∙ sym (tree.rolls-ArraySelect n.position n.one n.two n.tpe)) ∙ fold-roll-Tree Term Case view_step case_step (Tree-F.ArraySelect n.position n.one n.two n.tpe) in
    let p = err_from_is_err_and c.from_residual-in_err-first-in-ArraySelect.result c.from_residual-in_err-first-in-ArraySelect.ensures.1 in
    rw (p.1, p.2, v, ← c.deref-in-ArraySelect.ensures) (as_both_stop _ _ _ _ _ _ c.in_err-first-in-ArraySelect.ensures.ran)

pub check_parts-returns-in_ok-first-in-ArraySelect-clause-ran : goal.check_parts-returns-in_ok-first-in-ArraySelect-clause-ran
check_parts-returns-in_ok-first-in-ArraySelect-clause-ran g t c =
    let n = c.in-ArraySelect in
    let v : view c.args.tree.now ≡ array_select n.position (view n.one.value) (view n.two.value) n.tpe = ap view (n.is ∙ sym (tree.rolls-ArraySelect n.position n.one n.two n.tpe)) ∙ fold-roll-Tree Term Case view_step case_step (Tree-F.ArraySelect n.position n.one n.two n.tpe) in
    let f = c.in_ok-first-in-ArraySelect in
    let h = rw (f.ensures.stand, f.ensures.labels, f.ensures.next) at c.check-second-in-ArraySelect.ensures.ran in
    rw (c.behind-in-ArraySelect.ensures, seen-behind f.first c.check-second-in-ArraySelect.result, v, ← c.deref-in-ArraySelect.ensures, ← c.deref-in-ArraySelect-2.ensures) (as_both _ _ _ _ _ _ _ _ f.ensures.ran h)

pub check_parts-returns-in-IsInstanceOf-clause-ran : goal.check_parts-returns-in-IsInstanceOf-clause-ran
check_parts-returns-in-IsInstanceOf-clause-ran g t c =
    let n = c.in-IsInstanceOf in
    let v : view c.args.tree.now ≡ is_instance_of n.position (view n.one.value) n.tpe = ap view (n.is ∙ sym (tree.rolls-IsInstanceOf n.position n.one n.tpe)) ∙ fold-roll-Tree Term Case view_step case_step (Tree-F.IsInstanceOf n.position n.one n.tpe) in
    rw (v, ← c.deref-in-IsInstanceOf.ensures) c.check-in-IsInstanceOf.ensures.ran

pub check_parts-returns-in-AsInstanceOf-clause-ran : goal.check_parts-returns-in-AsInstanceOf-clause-ran
check_parts-returns-in-AsInstanceOf-clause-ran g t c =
    let n = c.in-AsInstanceOf in
    let v : view c.args.tree.now ≡ as_instance_of n.position (view n.one.value) n.tpe = ap view (n.is ∙ sym (tree.rolls-AsInstanceOf n.position n.one n.tpe)) ∙ fold-roll-Tree Term Case view_step case_step (Tree-F.AsInstanceOf n.position n.one n.tpe) in
    rw (v, ← c.deref-in-AsInstanceOf.ensures) c.check-in-AsInstanceOf.ensures.ran

pub check_parts-returns-in-Log-clause-ran : goal.check_parts-returns-in-Log-clause-ran
check_parts-returns-in-Log-clause-ran g t c =
    let n = c.in-Log in
    let v : view c.args.tree.now ≡ log_line n.position (view n.one.value) = ap view (n.is ∙ sym (tree.rolls-Log n.position n.one)) ∙ fold-roll-Tree Term Case view_step case_step (Tree-F.Log n.position n.one) in
    rw (v, ← c.deref-in-Log.ensures) c.check-in-Log.ensures.ran

pub check_parts-check_cases-requires : goal.check_parts-check_cases-requires
check_parts-check_cases-requires g t c κs = λ h. (rw c.deref-in-Match-2.ensures.value (omega (arith, ap the_size c.in-Match.is ∙ sized-Match c.in-Match.position c.in-Match.selector c.in-Match.cases c.in-Match.default c.in-Match.tpe)), h)

pub check_parts-check_all-second-requires : goal.check_parts-check_all-second-requires
check_parts-check_all-second-requires g t c κs = λ h. (rw c.deref-in-Apply-2.ensures.value (omega (arith, ap the_size c.in-Apply.is ∙ sized-Apply c.in-Apply.position c.in-Apply.receiver c.in-Apply.method c.in-Apply.trees c.in-Apply.tpe)), h)

pub check_parts-check_all-second-requires-in-ApplyStatically : goal.check_parts-check_all-second-requires-in-ApplyStatically
check_parts-check_all-second-requires-in-ApplyStatically g t c κs = λ h. (rw c.deref-in-ApplyStatically-2.ensures.value (omega (arith, ap the_size c.in-ApplyStatically.is ∙ sized-ApplyStatically c.in-ApplyStatically.position c.in-ApplyStatically.receiver c.in-ApplyStatically.class c.in-ApplyStatically.namespace c.in-ApplyStatically.method c.in-ApplyStatically.trees c.in-ApplyStatically.tpe)), h)

pub check-returns-in_err-parts-clause-ran : goal.check-returns-in_err-parts-clause-ran
check-returns-in_err-parts-clause-ran g t c =
    let p = err_from_is_err_and c.from_residual.result c.from_residual.ensures.1 in
    let h = rw c.next.ensures at c.in_err-parts.ensures.ran in
    rw (p.1, p.2) (as_met_stop _ _ _ _ _ _ _ _ _ h)

pub check-returns-clause-ran : goal.check-returns-clause-ran
check-returns-clause-ran g t c =
    let f = c.in_ok-parts in
    let h = rw (f.ensures.stand, c.as_slice.ensures.value, f.ensures.labels) at c.check_row-settable.ensures.ran in
    let k = rw c.next.ensures at f.ensures.ran in
    rw (c.numbered.ensures, seen-numbered c.check_row-settable.result f.parts.next) (as_met _ _ _ _ _ _ _ _ _ _ _ k h)

pub check_all-returns-in_err-next-clause-ran : goal.check_all-returns-in_err-next-clause-ran
check_all-returns-in_err-next-clause-ran g t c =
    let l = c.loop-each in
    let p = err_from_is_err_and c.from_residual.result c.from_residual.ensures.1 in
    let h = rw (l.invariant.stand, l.invariant.labels) at c.in_err-next.ensures.ran in
    rw (p.1, p.2) (l.invariant.ran _ _ (all_no (IsAnswer (g.O.Oracle.stand c.args.oracle.now)) c.args.namespace c.args.labels.now.items l.next (terms_view (drop l.each-index c.args.trees.now)) (view c.each-item.result) (terms_view (drop (l.each-index + 1) c.args.trees.now)) _ _ _ (terms-dropped c.args.trees.now l.each-index c.each-item.result (omega arith) c.each-item.is) h))

pub check_all-loop-each-preserved : goal.check_all-loop-each-preserved
check_all-loop-each-preserved g t c =
    let l = c.loop-each in
    let i = l.invariant in
    let f = c.in_ok-next in
    let e : (terms_view (drop l.each-index c.args.trees.now)) ≡ more_terms (view c.each-item.result) (terms_view (drop (l.each-index + 1) c.args.trees.now)) = terms-dropped c.args.trees.now l.each-index c.each-item.result (omega arith) c.each-item.is in
    let h = rw (i.stand, i.labels) at f.ensures.ran in
    record {
      stand = f.ensures.stand ∙ i.stand;
      labels = f.ensures.labels ∙ i.labels;
      next = all_next l.next _ (terms_view (drop l.each-index c.args.trees.now)) (view c.each-item.result) (terms_view (drop (l.each-index + 1) c.args.trees.now)) e f.ensures.next ∙ i.next;
      ran = λ r u k. i.ran r u (all_on (IsAnswer (g.O.Oracle.stand c.args.oracle.now)) c.args.namespace c.args.labels.now.items l.next _ (terms_view (drop l.each-index c.args.trees.now)) (view c.each-item.result) (terms_view (drop (l.each-index + 1) c.args.trees.now)) _ r _ _ u e f.ensures.next h k);
    }

pub check_all-returns-clause-ran : goal.check_all-returns-clause-ran
check_all-returns-clause-ran g t c =
    let l = c.loop-each in
    l.invariant.ran _ _ (all_end (IsAnswer (g.O.Oracle.stand c.args.oracle.now)) c.args.namespace c.args.labels.now.items l.next (terms_view (drop l.each-index c.args.trees.now)) _ (terms-ended c.args.trees.now l.each-index (omega arith)))

pub check_cases-returns-in_err-next-clause-ran : goal.check_cases-returns-in_err-next-clause-ran
check_cases-returns-in_err-next-clause-ran g t c =
    let l = c.loop-each in
    let p = err_from_is_err_and c.from_residual.result c.from_residual.ensures.1 in
    let h = rw (l.invariant.stand, l.invariant.labels) at c.in_err-next.ensures.ran in
    rw (p.1, p.2) (l.invariant.ran _ _ (cases_no (IsAnswer (g.O.Oracle.stand c.args.oracle.now)) c.args.namespace c.args.labels.now.items l.next (cases_view (drop l.each-index c.args.cases.now)) (view_case c.each-item.result).0 (view c.each-item.result.body) (cases_view (drop (l.each-index + 1) c.args.cases.now)) _ _ _ (cases-dropped c.args.cases.now l.each-index c.each-item.result (omega arith) c.each-item.is) h))

pub check_cases-loop-each-preserved : goal.check_cases-loop-each-preserved
check_cases-loop-each-preserved g t c =
    let l = c.loop-each in
    let i = l.invariant in
    let f = c.in_ok-next in
    let e : (cases_view (drop l.each-index c.args.cases.now)) ≡ more_cases (view_case c.each-item.result).0 (view c.each-item.result.body) (cases_view (drop (l.each-index + 1) c.args.cases.now)) = cases-dropped c.args.cases.now l.each-index c.each-item.result (omega arith) c.each-item.is in
    let h = rw (i.stand, i.labels) at f.ensures.ran in
    record {
      stand = f.ensures.stand ∙ i.stand;
      labels = f.ensures.labels ∙ i.labels;
      next = cases_next l.next _ (cases_view (drop l.each-index c.args.cases.now)) (view_case c.each-item.result).0 (view c.each-item.result.body) (cases_view (drop (l.each-index + 1) c.args.cases.now)) e f.ensures.next ∙ i.next;
      ran = λ r u k. i.ran r u (cases_on (IsAnswer (g.O.Oracle.stand c.args.oracle.now)) c.args.namespace c.args.labels.now.items l.next _ (cases_view (drop l.each-index c.args.cases.now)) (view_case c.each-item.result).0 (view c.each-item.result.body) (cases_view (drop (l.each-index + 1) c.args.cases.now)) _ r _ _ u e f.ensures.next h k);
    }

pub check_cases-returns-clause-ran : goal.check_cases-returns-clause-ran
check_cases-returns-clause-ran g t c =
    let l = c.loop-each in
    l.invariant.ran _ _ (cases_end (IsAnswer (g.O.Oracle.stand c.args.oracle.now)) c.args.namespace c.args.labels.now.items l.next (cases_view (drop l.each-index c.args.cases.now)) _ (cases-ended c.args.cases.now l.each-index (omega arith)))

pub check_parts-returns-in-Skip-clause-ran : goal.check_parts-returns-in-Skip-clause-ran
check_parts-returns-in-Skip-clause-ran g t c = at_leaf (IsAnswer (g.O.Oracle.stand c.args.oracle.now)) c.args.namespace c.args.labels.now.items c.args.place c.args.tree.now _ c.in-Skip.is

pub check_parts-returns-in-Skip-2-clause-ran : goal.check_parts-returns-in-Skip-2-clause-ran
check_parts-returns-in-Skip-2-clause-ran g t c = at_leaf (IsAnswer (g.O.Oracle.stand c.args.oracle.now)) c.args.namespace c.args.labels.now.items c.args.place c.args.tree.now _ c.in-Skip.is

pub check_parts-returns-in-Skip-3-clause-ran : goal.check_parts-returns-in-Skip-3-clause-ran
check_parts-returns-in-Skip-3-clause-ran g t c = at_leaf (IsAnswer (g.O.Oracle.stand c.args.oracle.now)) c.args.namespace c.args.labels.now.items c.args.place c.args.tree.now _ c.in-Skip.is

pub check_parts-returns-in-Skip-4-clause-ran : goal.check_parts-returns-in-Skip-4-clause-ran
check_parts-returns-in-Skip-4-clause-ran g t c = at_leaf (IsAnswer (g.O.Oracle.stand c.args.oracle.now)) c.args.namespace c.args.labels.now.items c.args.place c.args.tree.now _ c.in-Skip.is

pub check_parts-returns-in-Skip-5-clause-ran : goal.check_parts-returns-in-Skip-5-clause-ran
check_parts-returns-in-Skip-5-clause-ran g t c = at_leaf (IsAnswer (g.O.Oracle.stand c.args.oracle.now)) c.args.namespace c.args.labels.now.items c.args.place c.args.tree.now _ c.in-Skip.is

pub check_parts-returns-in-Skip-6-clause-ran : goal.check_parts-returns-in-Skip-6-clause-ran
check_parts-returns-in-Skip-6-clause-ran g t c = at_leaf (IsAnswer (g.O.Oracle.stand c.args.oracle.now)) c.args.namespace c.args.labels.now.items c.args.place c.args.tree.now _ c.in-Skip.is

pub check_parts-returns-in-Skip-7-clause-ran : goal.check_parts-returns-in-Skip-7-clause-ran
check_parts-returns-in-Skip-7-clause-ran g t c = at_leaf (IsAnswer (g.O.Oracle.stand c.args.oracle.now)) c.args.namespace c.args.labels.now.items c.args.place c.args.tree.now _ c.in-Skip.is

pub check_parts-returns-in-Skip-8-clause-ran : goal.check_parts-returns-in-Skip-8-clause-ran
check_parts-returns-in-Skip-8-clause-ran g t c = at_leaf (IsAnswer (g.O.Oracle.stand c.args.oracle.now)) c.args.namespace c.args.labels.now.items c.args.place c.args.tree.now _ c.in-Skip.is

pub check_parts-returns-in-Skip-9-clause-ran : goal.check_parts-returns-in-Skip-9-clause-ran
check_parts-returns-in-Skip-9-clause-ran g t c = at_leaf (IsAnswer (g.O.Oracle.stand c.args.oracle.now)) c.args.namespace c.args.labels.now.items c.args.place c.args.tree.now _ c.in-Skip.is

pub check_parts-returns-in-Skip-10-clause-ran : goal.check_parts-returns-in-Skip-10-clause-ran
check_parts-returns-in-Skip-10-clause-ran g t c = at_leaf (IsAnswer (g.O.Oracle.stand c.args.oracle.now)) c.args.namespace c.args.labels.now.items c.args.place c.args.tree.now _ c.in-Skip.is

pub check_parts-returns-in-Skip-11-clause-ran : goal.check_parts-returns-in-Skip-11-clause-ran
check_parts-returns-in-Skip-11-clause-ran g t c = at_leaf (IsAnswer (g.O.Oracle.stand c.args.oracle.now)) c.args.namespace c.args.labels.now.items c.args.place c.args.tree.now _ c.in-Skip.is

pub check_parts-returns-in-Skip-12-clause-ran : goal.check_parts-returns-in-Skip-12-clause-ran
check_parts-returns-in-Skip-12-clause-ran g t c = at_leaf (IsAnswer (g.O.Oracle.stand c.args.oracle.now)) c.args.namespace c.args.labels.now.items c.args.place c.args.tree.now _ c.in-Skip.is

pub check_parts-returns-in-Skip-13-clause-ran : goal.check_parts-returns-in-Skip-13-clause-ran
check_parts-returns-in-Skip-13-clause-ran g t c = at_leaf (IsAnswer (g.O.Oracle.stand c.args.oracle.now)) c.args.namespace c.args.labels.now.items c.args.place c.args.tree.now _ c.in-Skip.is

pub check_parts-returns-in-Skip-14-clause-ran : goal.check_parts-returns-in-Skip-14-clause-ran
check_parts-returns-in-Skip-14-clause-ran g t c = at_leaf (IsAnswer (g.O.Oracle.stand c.args.oracle.now)) c.args.namespace c.args.labels.now.items c.args.place c.args.tree.now _ c.in-Skip.is

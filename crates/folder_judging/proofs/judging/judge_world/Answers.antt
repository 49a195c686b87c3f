use Rattle.std.proofs.Common.{sym, subst}
use Rattle.std.proofs.lemmas.Result.{err_from_is_err_and}
use Rattle.sj_reach.specs.Answers.{AreReachable}
use Rattle.folder_judging.specs.Counts.{CountsChecks}
use Rattle.folder_judging.proofs.Defined.{all_defined}
use Rattle.folder_judging.proofs.Staged.{unchecked, by_types, by_untyped, counts_untyped}
use Rattle.folder_judging.proofs.judging.judge_world.Goals as goal

pub returns-in_err-linked-clause-counted : goal.returns-in_err-linked-clause-counted
returns-in_err-linked-clause-counted g c =
    let p = err_from_is_err_and c.from_residual.result c.from_residual.ensures.1 in
    subst (λ r. CountsChecks (AreReachable c.args.world.now c.args.entries.now) r (g.W.Workers.meter c.args.work.now) (g.W.Workers.meter c.args.work.now)) (sym p.1) (unchecked (AreReachable c.args.world.now c.args.entries.now) (g.W.Workers.meter c.args.work.now) p.0)

pub check_types-requires : goal.check_types-requires
check_types-requires g c = all_defined c.args.world.now c.args.entries.now c.in_ok-linked.linked c.requires c.in_ok-linked.ensures.world c.in_ok-linked.ensures.reached

pub returns-in_err-check_types-clause-verdict : goal.returns-in_err-check_types-clause-verdict
returns-in_err-check_types-clause-verdict g c =
    let p = err_from_is_err_and c.from_residual-in_err-check_types.result c.from_residual-in_err-check_types.ensures.1 in
    rw (p.1, p.2) (by_untyped c.args.entries.now c.args.world.now c.in_ok-linked.linked c.in_ok-linked.ensures c.in_err-check_types.field-0.0 c.in_err-check_types.ensures.verdict)

pub returns-in_err-check_types-clause-counted : goal.returns-in_err-check_types-clause-counted
returns-in_err-check_types-clause-counted g c =
    let p = err_from_is_err_and c.from_residual-in_err-check_types.result c.from_residual-in_err-check_types.ensures.1 in
    rw (p.1, p.2) (counts_untyped c.args.entries.now c.args.world.now c.in_ok-linked.linked c.in_ok-linked.ensures c.in_err-check_types.field-0.0 (g.W.Workers.meter c.args.work.now) (g.W.Workers.meter c.check_types.new.work) c.in_err-check_types.ensures.verdict c.in_err-check_types.ensures.counted)

pub returns-clause-verdict : goal.returns-clause-verdict
returns-clause-verdict g c = (by_types c.args.entries.now c.args.world.now c.in_ok-linked.linked c.in_ok-linked.ensures c.in_ok-check_types.ensures.verdict, c.in_ok-linked.ensures)

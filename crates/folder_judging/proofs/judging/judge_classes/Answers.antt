use Rattle.std.proofs.Common.{sym, subst}
use Rattle.std.proofs.lemmas.Result.{err_from_is_err_and}
use Rattle.folder_judging.specs.Counts.{CountsChecks}
use Rattle.folder_judging.specs.Judging.{AreFactsOf}
use Rattle.folder_judging.proofs.Staged.{unchecked, keep_rules, by_names, counts_in_world}
use Rattle.folder_judging.proofs.judging.judge_classes.Goals as goal

pub returns-in_err-broken-clause-counted : goal.returns-in_err-broken-clause-counted
returns-in_err-broken-clause-counted g c =
    let p = err_from_is_err_and c.from_residual.result c.from_residual.ensures.1 in
    subst (λ r. CountsChecks (AreFactsOf c.args.entries.now c.args.classes.items) r (g.W.Workers.meter c.args.work.now) (g.W.Workers.meter c.args.work.now)) (sym p.1) (unchecked (AreFactsOf c.args.entries.now c.args.classes.items) (g.W.Workers.meter c.args.work.now) p.0)

pub returns-in_err-world-clause-counted : goal.returns-in_err-world-clause-counted
returns-in_err-world-clause-counted g c =
    let p = err_from_is_err_and c.from_residual-in_err-world.result c.from_residual-in_err-world.ensures.1 in
    subst (λ r. CountsChecks (AreFactsOf c.args.entries.now c.args.classes.items) r (g.W.Workers.meter c.args.work.now) (g.W.Workers.meter c.args.work.now)) (sym p.1) (unchecked (AreFactsOf c.args.entries.now c.args.classes.items) (g.W.Workers.meter c.args.work.now) p.0)

pub judge_world-requires : goal.judge_world-requires
judge_world-requires g c = keep_rules c.args.entries.now c.args.classes.items c.in_ok-world.world c.in_ok-world.ensures

pub returns-clause-verdict : goal.returns-clause-verdict
returns-clause-verdict g c = by_names c.args.entries.now c.args.classes.items c.in_ok-world.world c.in_ok-world.ensures c.judge_world.result c.judge_world.ensures.verdict

pub returns-clause-counted : goal.returns-clause-counted
returns-clause-counted g c = counts_in_world c.args.entries.now c.args.classes.items c.in_ok-world.world c.in_ok-world.ensures c.judge_world.result _ _ c.judge_world.ensures.counted

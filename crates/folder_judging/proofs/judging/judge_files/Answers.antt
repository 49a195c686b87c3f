use Rattle.std.proofs.Common.{sym, subst}
use Rattle.std.proofs.lemmas.Result.{err_from_is_err_and}
use Rattle.folder_judging.specs.Counts.{Counts}
use Rattle.folder_judging.specs.Judging.{AreFactsRead}
use Rattle.folder_judging.proofs.Staged.{by_files, counts_in_files, counts_unread}
use Rattle.folder_judging.proofs.judging.judge_files.Goals as goal

pub returns-in_err-classes-clause-counted : goal.returns-in_err-classes-clause-counted
returns-in_err-classes-clause-counted g c =
    let p = err_from_is_err_and c.from_residual.result c.from_residual.ensures.1 in
    subst (λ r. Counts c.args.files.now (AreFactsRead c.args.entries.now c.args.files.now) r (g.W.Workers.meter c.args.work.now) (g.W.Workers.meter c.read_files.new.work)) (sym p.1) (counts_unread c.args.files.now (AreFactsRead c.args.entries.now c.args.files.now) p.0 _ _ c.in_err-classes.ensures.counted)

pub returns-clause-verdict : goal.returns-clause-verdict
returns-clause-verdict g c = by_files c.args.entries.now c.args.files.now c.in_ok-classes.classes.items c.in_ok-classes.ensures.read c.judge_classes.result c.judge_classes.ensures.verdict

pub returns-clause-counted : goal.returns-clause-counted
returns-clause-counted g c = counts_in_files c.args.entries.now c.args.files.now c.in_ok-classes.classes.items c.in_ok-classes.ensures.read c.judge_classes.result _ _ _ c.in_ok-classes.ensures.counted c.judge_classes.ensures.counted

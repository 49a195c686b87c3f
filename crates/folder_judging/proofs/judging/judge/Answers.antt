use Rattle.std.proofs.Common.{◌∙◌, sym, subst}
use Rattle.std.proofs.lemmas.Result.{err_from_is_err_and}
use Rattle.folder_judging.specs.Counts.{Counts}
use Rattle.folder_judging.specs.Judging.{AreFactsIn}
use Rattle.folder_judging.proofs.Staged.{counts_nothing, counts_small, place_inside, too_large_at, by_sizes}
use Rattle.folder_judging.proofs.judging.judge.Goals as goal

pub returns-in_err-sizes-clause-counted : goal.returns-in_err-sizes-clause-counted
returns-in_err-sizes-clause-counted g c =
    let p = err_from_is_err_and c.from_residual.result c.from_residual.ensures.1 in
    subst (λ r. Counts c.args.files.now (AreFactsIn c.args.entries.now c.args.files.now) r (g.W.Workers.meter c.args.work.now) (g.W.Workers.meter c.args.work.now)) (sym p.1) (counts_nothing c.args.files.now (AreFactsIn c.args.entries.now c.args.files.now) p.0 (g.W.Workers.meter c.args.work.now))

pub bounds-files-place : goal.bounds-files-place
bounds-files-place g c = place_inside c.args.files.now c.in-Some.place c.deref.result.now (c.deref.ensures.value ∙ c.in_ok-sizes.ensures) c.in-Some.ensures

pub returns-in-Some-clause-verdict : goal.returns-in-Some-clause-verdict
returns-in-Some-clause-verdict g c = too_large_at c.args.files.now c.in-Some.place c.deref.result.now (c.deref.ensures.value ∙ c.in_ok-sizes.ensures) c.args.entries.now c.refusal_at.result c.index-files-place.result c.in-Some.ensures (rw c.as_str.ensures at c.refusal_at.ensures)

pub returns-in-Some-clause-counted : goal.returns-in-Some-clause-counted
returns-in-Some-clause-counted g c = counts_nothing c.args.files.now (AreFactsIn c.args.entries.now c.args.files.now) c.refusal_at.result (g.W.Workers.meter c.args.work.now)

pub returns-clause-verdict : goal.returns-clause-verdict
returns-clause-verdict g c = by_sizes c.args.entries.now c.args.files.now c.deref.result.now (c.deref.ensures.value ∙ c.in_ok-sizes.ensures) c.in-None.ensures c.judge_files.result c.judge_files.ensures.verdict

pub returns-clause-counted : goal.returns-clause-counted
returns-clause-counted g c = counts_small c.args.entries.now c.args.files.now c.deref.result.now (c.deref.ensures.value ∙ c.in_ok-sizes.ensures) c.in-None.ensures c.judge_files.result _ _ c.judge_files.ensures.counted

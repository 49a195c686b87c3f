use Rattle.folder_judging_spec.proofs.Verdict.{one_verdict}
use Rattle.folder_judging_spec.proofs.laws.verdict_is_one.Goals as goal

pub returns : goal.returns
returns c = one_verdict

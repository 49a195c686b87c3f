use Rattle.sj_typing_verdicts.proofs.OneVerdict.{has_one_verdict}
use Rattle.sj_typing_verdicts.proofs.laws.verdict_is_one.Goals as goal

pub returns : goal.returns
returns c = has_one_verdict

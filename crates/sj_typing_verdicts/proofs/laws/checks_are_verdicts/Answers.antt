use Rattle.sj_typing_verdicts.proofs.OneVerdict.{is_verdict}
use Rattle.sj_typing_verdicts.proofs.laws.checks_are_verdicts.Goals as goal

pub returns : goal.returns
returns c = is_verdict

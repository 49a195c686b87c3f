use Rattle.read_verdicts.proofs.Read.{same_verdict}
use Rattle.read_verdicts.proofs.verdict_on_what_is_read.Goals as goal

pub returns : goal.returns
returns c = same_verdict

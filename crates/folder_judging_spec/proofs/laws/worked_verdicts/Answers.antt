use Rattle.folder_judging_spec.proofs.Rows.{worked}
use Rattle.folder_judging_spec.proofs.laws.worked_verdicts.Goals as goal

pub returns : goal.returns
returns c = worked

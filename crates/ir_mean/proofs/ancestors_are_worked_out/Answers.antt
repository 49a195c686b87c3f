use Rattle.ir_mean.proofs.AncestorsFound as found
use Rattle.ir_mean.proofs.ancestors_are_worked_out.Goals as goal

pub returns : goal.returns
returns c = found.ancestors_are_worked_out

use Rattle.ir_mean.proofs.SubtypesFound as found
use Rattle.ir_mean.proofs.subtypes_are_worked_out.Goals as goal

pub returns : goal.returns
returns c = found.subtypes_are_worked_out

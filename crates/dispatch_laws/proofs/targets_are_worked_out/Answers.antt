use Rattle.dispatch_laws.proofs.WorkedOut as worked
use Rattle.dispatch_laws.proofs.targets_are_worked_out.Goals as goal

pub returns : goal.returns
returns c = worked.targets_are_worked_out

use Rattle.dispatch_laws.proofs.Running as running
use Rattle.dispatch_laws.proofs.targets_run.Goals as goal

pub returns : goal.returns
returns c = running.targets_run

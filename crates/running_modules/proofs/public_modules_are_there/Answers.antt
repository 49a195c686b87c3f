use Rattle.running_modules.proofs.There.{public_modules_are_there}
use Rattle.running_modules.proofs.public_modules_are_there.Goals as goal

pub returns : goal.returns
returns c = public_modules_are_there

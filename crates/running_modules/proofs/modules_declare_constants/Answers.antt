use Rattle.running_modules.proofs.Declares.{modules_declare_constants}
use Rattle.running_modules.proofs.modules_declare_constants.Goals as goal

pub returns : goal.returns
returns c = modules_declare_constants

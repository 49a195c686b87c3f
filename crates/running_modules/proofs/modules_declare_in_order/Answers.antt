use Rattle.running_modules.proofs.Declares.{modules_declare_in_order}
use Rattle.running_modules.proofs.modules_declare_in_order.Goals as goal

pub returns : goal.returns
returns c = modules_declare_in_order

use Rattle.declared_modules.proofs.Whole.{modules_declare}
use Rattle.declared_modules.proofs.modules_declare.Goals as goal

pub returns : goal.returns
returns c = modules_declare

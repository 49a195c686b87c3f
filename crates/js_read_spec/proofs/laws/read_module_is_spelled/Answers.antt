use Rattle.js_read_spec.proofs.WholeModules.{module_whole, module_spelled}
use Rattle.js_read_spec.proofs.laws.read_module_is_spelled.Goals as goal

pub returns : goal.returns
returns c = record { whole = module_whole; spelled = module_spelled }

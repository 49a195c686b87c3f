use Rattle.js_read_spec.proofs.WholeModules.{one_module}
use Rattle.js_read_spec.proofs.laws.one_module.Goals as goal

pub returns : goal.returns
returns c = one_module

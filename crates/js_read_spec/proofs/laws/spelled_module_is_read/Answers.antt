use Rattle.js_read_spec.proofs.WholeModules.{module_read}
use Rattle.js_read_spec.proofs.laws.spelled_module_is_read.Goals as goal

pub returns : goal.returns
returns c = module_read

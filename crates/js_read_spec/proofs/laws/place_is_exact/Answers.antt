use Rattle.js_read_spec.proofs.WholeModules.{no_module, module_place}
use Rattle.js_read_spec.proofs.laws.place_is_exact.Goals as goal

pub returns : goal.returns
returns c = record { nothing = no_module; place = module_place }

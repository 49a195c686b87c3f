use Rattle.js_read_spec.proofs.WholeModules.{one_module}
use Rattle.sj_agree.proofs.Reading.{read_once}
use Rattle.sjslink.proofs.laws.programs_are_read_once.Goals as goal

pub returns : goal.returns
returns c = read_once one_module

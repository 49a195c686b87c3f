use Rattle.sj_emit_module_spec.proofs.Lines.{modules_are_one}
use Rattle.sj_emit_module_spec.proofs.laws.modules_are_one.Goals as goal

pub returns : goal.returns
returns c = modules_are_one

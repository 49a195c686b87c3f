use Rattle.sj_emit_module_spec.proofs.Lines.{exports_are_declared}
use Rattle.sj_emit_module_spec.proofs.laws.exports_are_declared.Goals as goal

pub returns : goal.returns
returns c = exports_are_declared

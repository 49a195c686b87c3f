use Rattle.sj_emit_module_spec.proofs.Lines.{modules_have_their_lines}
use Rattle.sj_emit_module_spec.proofs.laws.modules_have_their_lines.Goals as goal

pub returns : goal.returns
returns c = modules_have_their_lines

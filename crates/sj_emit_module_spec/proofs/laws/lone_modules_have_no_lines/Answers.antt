use Rattle.sj_emit_module_spec.proofs.Alone.{lone_modules_have_no_lines}
use Rattle.sj_emit_module_spec.proofs.laws.lone_modules_have_no_lines.Goals as goal

pub returns : goal.returns
returns c = lone_modules_have_no_lines

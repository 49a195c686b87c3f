use Rattle.sj_emit_module_spec.proofs.Printed.{modules_keep_rules}
use Rattle.sj_emit_module_spec.proofs.laws.modules_keep_rules.Goals as goal

pub returns : goal.returns
returns c = modules_keep_rules

use Rattle.sj_emit_module_spec.proofs.Lines.{imports_find_exports}
use Rattle.sj_emit_module_spec.proofs.laws.imports_find_exports.Goals as goal

pub returns : goal.returns
returns c = imports_find_exports

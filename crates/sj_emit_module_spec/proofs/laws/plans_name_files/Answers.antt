use Rattle.sj_emit_module_spec.proofs.FileNames.{plans_name_files}
use Rattle.sj_emit_module_spec.proofs.laws.plans_name_files.Goals as goal

pub returns : goal.returns
returns c = plans_name_files

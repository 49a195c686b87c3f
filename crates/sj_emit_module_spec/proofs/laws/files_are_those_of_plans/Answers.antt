use Rattle.sj_emit_module_spec.proofs.Lines.{files_are_those_of_plans}
use Rattle.sj_emit_module_spec.proofs.laws.files_are_those_of_plans.Goals as goal

pub returns : goal.returns
returns c = files_are_those_of_plans

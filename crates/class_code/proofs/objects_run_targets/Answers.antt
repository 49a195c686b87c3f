use Rattle.class_code.proofs.Objects as laws
use Rattle.class_code.proofs.objects_run_targets.Goals as goal

pub returns : goal.returns
returns c = laws.objects_run_targets

use Rattle.class_tests.proofs.Telling as laws
use Rattle.class_tests.proofs.kinds_run_targets.Goals as goal

pub returns : goal.returns
returns c = laws.kinds_run_targets

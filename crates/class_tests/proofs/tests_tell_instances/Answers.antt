use Rattle.class_tests.proofs.Instanced as laws
use Rattle.class_tests.proofs.tests_tell_instances.Goals as goal

pub returns : goal.returns
returns c = laws.tests_tell_instances

use Rattle.class_tests.proofs.Marked as laws
use Rattle.class_tests.proofs.class_tests_tell.Goals as goal

pub returns : goal.returns
returns c = record { tells = laws.class_tests_tell; null = laws.null_is_no_instance }

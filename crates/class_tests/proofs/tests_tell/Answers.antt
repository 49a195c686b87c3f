use Rattle.class_tests.proofs.Telling as laws
use Rattle.class_tests.proofs.tests_tell.Goals as goal

pub returns : goal.returns
returns c = laws.tests_tell

use Rattle.class_tests.proofs.Smallest as laws
use Rattle.class_tests.proofs.small_tests_tell.Goals as goal

pub returns : goal.returns
returns c = laws.small_tests_tell

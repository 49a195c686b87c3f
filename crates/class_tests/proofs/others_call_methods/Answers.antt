use Rattle.class_tests.proofs.Telling as laws
use Rattle.class_tests.proofs.others_call_methods.Goals as goal

pub returns : goal.returns
returns c = laws.others_call_methods

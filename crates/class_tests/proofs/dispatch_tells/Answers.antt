use Rattle.class_tests.proofs.Telling as laws
use Rattle.class_tests.proofs.dispatch_tells.Goals as goal

pub returns : goal.returns
returns c = laws.dispatch_tells

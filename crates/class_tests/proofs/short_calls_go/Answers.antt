use Rattle.class_tests.proofs.Shortly as laws
use Rattle.class_tests.proofs.short_calls_go.Goals as goal

pub returns : goal.returns
returns c = laws.short_calls_go

use Rattle.array_code.proofs.Fitted as laws
use Rattle.array_code.proofs.classes_tell.Goals as goal

pub returns : goal.returns
returns c = laws.classes_tell

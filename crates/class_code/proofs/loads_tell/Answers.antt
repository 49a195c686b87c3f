use Rattle.class_code.proofs.Loading as laws
use Rattle.class_code.proofs.loads_tell.Goals as goal

pub returns : goal.returns
returns c = laws.loads_tell

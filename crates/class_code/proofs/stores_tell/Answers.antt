use Rattle.class_code.proofs.Loading as laws
use Rattle.class_code.proofs.stores_tell.Goals as goal

pub returns : goal.returns
returns c = laws.stores_tell

use Rattle.array_code.proofs.Indexing as laws
use Rattle.array_code.proofs.checks_tell.Goals as goal

pub returns : goal.returns
returns c = laws.checks_tell

use Rattle.file_tops.proofs.Standing as laws
use Rattle.file_tops.proofs.owners_found.Goals as goal

pub returns : goal.returns
returns c = laws.owners_found

use Rattle.file_tops.proofs.Standing as laws
use Rattle.file_tops.proofs.stands_on.Goals as goal

pub returns : goal.returns
returns c = laws.stands_on

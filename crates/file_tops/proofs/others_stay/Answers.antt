use Rattle.file_tops.proofs.Run as laws
use Rattle.file_tops.proofs.others_stay.Goals as goal

pub returns : goal.returns
returns c = laws.others_stay

use Rattle.file_tops.proofs.Run as laws
use Rattle.file_tops.proofs.classes_extend.Goals as goal

pub returns : goal.returns
returns c = laws.classes_extend

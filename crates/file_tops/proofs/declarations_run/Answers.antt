use Rattle.file_tops.proofs.Run as laws
use Rattle.file_tops.proofs.declarations_run.Goals as goal

pub returns : goal.returns
returns c = laws.declarations_run

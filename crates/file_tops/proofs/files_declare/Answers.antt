use Rattle.file_tops.proofs.Run as laws
use Rattle.file_tops.proofs.files_declare.Goals as goal

pub returns : goal.returns
returns c = laws.files_declare

use Rattle.module_files.proofs.Read.{files_are_read}
use Rattle.module_files.proofs.files_are_read.Goals as goal

pub returns : goal.returns
returns c = files_are_read

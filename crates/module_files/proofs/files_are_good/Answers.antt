use Rattle.module_files.proofs.Good.{files_are_good}
use Rattle.module_files.proofs.files_are_good.Goals as goal

pub returns : goal.returns
returns c = files_are_good

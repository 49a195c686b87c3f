use Rattle.module_files.proofs.Reached.{reached_files_are_good}
use Rattle.module_files.proofs.reached_files_are_good.Goals as goal

pub returns : goal.returns
returns c = reached_files_are_good

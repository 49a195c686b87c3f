use Rattle.module_files.proofs.Found.{uses_are_owned}
use Rattle.module_files.proofs.uses_are_owned.Goals as goal

pub returns : goal.returns
returns c = uses_are_owned

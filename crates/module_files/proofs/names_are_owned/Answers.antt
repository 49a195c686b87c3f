use Rattle.module_files.proofs.Found.{names_are_owned}
use Rattle.module_files.proofs.names_are_owned.Goals as goal

pub returns : goal.returns
returns c = names_are_owned

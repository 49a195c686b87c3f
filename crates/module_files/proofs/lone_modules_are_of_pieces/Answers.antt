use Rattle.module_files.proofs.Read.{lone_modules_are_of_pieces}
use Rattle.module_files.proofs.lone_modules_are_of_pieces.Goals as goal

pub returns : goal.returns
returns c = lone_modules_are_of_pieces

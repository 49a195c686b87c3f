use Rattle.declared_files.proofs.Tops as tops
use Rattle.declared_files.proofs.declarations_of_files_hold.Goals as goal

pub returns : goal.returns
returns c = tops.declarations_of_files_hold

use Rattle.file_declarations.proofs.Tops as tops
use Rattle.file_declarations.proofs.declarations_hold.Goals as goal

pub returns : goal.returns
returns c = tops.declarations_hold

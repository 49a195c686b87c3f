use Rattle.linked_folders.proofs.One.{pieces_one}
use Rattle.linked_folders.proofs.pieces_are_one.Goals as goal

pub returns : goal.returns
returns c = pieces_one

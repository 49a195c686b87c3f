use Rattle.linked_pieces.proofs.One as one
use Rattle.linked_pieces.proofs.linked_pieces_are_one.Goals as goal

pub returns : goal.returns
returns c = one.are_one

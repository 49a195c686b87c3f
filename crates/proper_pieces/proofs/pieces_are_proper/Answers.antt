use Rattle.proper_pieces.proofs.Items as items
use Rattle.proper_pieces.proofs.pieces_are_proper.Goals as goal

pub returns : goal.returns
returns c = items.pieces_are_proper

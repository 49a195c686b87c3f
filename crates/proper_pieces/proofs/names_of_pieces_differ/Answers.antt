use Rattle.proper_pieces.proofs.Linked as linked
use Rattle.proper_pieces.proofs.names_of_pieces_differ.Goals as goal

pub returns : goal.returns
returns c = linked.names_of_pieces_differ

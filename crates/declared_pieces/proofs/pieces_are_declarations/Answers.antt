use Rattle.declared_pieces.proofs.Order as order
use Rattle.declared_pieces.proofs.pieces_are_declarations.Goals as goal

pub returns : goal.returns
returns c = order.pieces_are_declarations

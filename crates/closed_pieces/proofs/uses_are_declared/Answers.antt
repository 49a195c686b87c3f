use Rattle.closed_pieces.proofs.Uses as uses
use Rattle.closed_pieces.proofs.uses_are_declared.Goals as goal

pub returns : goal.returns
returns c = uses.uses_are_declared

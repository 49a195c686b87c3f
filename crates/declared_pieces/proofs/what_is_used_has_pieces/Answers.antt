use Rattle.declared_pieces.proofs.Whole as whole
use Rattle.declared_pieces.proofs.what_is_used_has_pieces.Goals as goal

pub returns : goal.returns
returns c = whole.has_pieces

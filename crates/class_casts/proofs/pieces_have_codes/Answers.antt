use Rattle.class_casts.proofs.Spelled as laws
use Rattle.class_casts.proofs.pieces_have_codes.Goals as goal

pub returns : goal.returns
returns c = laws.pieces_have_codes

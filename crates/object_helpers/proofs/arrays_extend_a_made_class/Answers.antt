use Rattle.object_helpers.proofs.Pieces.{extending}
use Rattle.object_helpers.proofs.arrays_extend_a_made_class.Goals as goal

pub returns : goal.returns
returns c = extending

use Rattle.object_helpers.proofs.Pieces.{reached}
use Rattle.object_helpers.proofs.thrown_classes_are_reached.Goals as goal

pub returns : goal.returns
returns c = reached

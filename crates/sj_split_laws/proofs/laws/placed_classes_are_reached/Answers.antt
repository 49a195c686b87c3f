use Rattle.sj_split_laws.proofs.Placing.{placed_classes_are_reached}
use Rattle.sj_split_laws.proofs.laws.placed_classes_are_reached.Goals as goal

pub returns : goal.returns
returns c = placed_classes_are_reached

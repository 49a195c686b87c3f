use Rattle.sj_split.proofs.OnePlace.{classes_have_one_place}
use Rattle.sj_split.proofs.laws.classes_have_one_place.Goals as goal

pub returns : goal.returns
returns c = classes_have_one_place

use Rattle.sj_split.proofs.LawsHold.{components_are_homes}
use Rattle.sj_split.proofs.laws.components_are_homes.Goals as goal

pub returns : goal.returns
returns c = components_are_homes

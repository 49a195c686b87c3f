use Rattle.sj_split_laws.proofs.Placing.{modules_are_homes}
use Rattle.sj_split_laws.proofs.laws.modules_are_homes.Goals as goal

pub returns : goal.returns
returns c = modules_are_homes

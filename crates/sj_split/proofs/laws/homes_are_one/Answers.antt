use Rattle.sj_split.proofs.LawsHold.{one_home}
use Rattle.sj_split.proofs.laws.homes_are_one.Goals as goal

pub returns : goal.returns
returns c = one_home

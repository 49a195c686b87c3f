use Rattle.sj_split.proofs.LawsHold.{tags_decide_homes}
use Rattle.sj_split.proofs.laws.tags_decide_homes.Goals as goal

pub returns : goal.returns
returns c = tags_decide_homes

use Rattle.sj_world.proofs.LawsHold as laws
use Rattle.sj_world.proofs.laws.ancestors_rise.Goals as goal

pub returns : goal.returns
returns c = laws.ancestors_rise

use Rattle.sj_world.proofs.Grows as laws
use Rattle.sj_world.proofs.laws.ancestors_grow.Goals as goal

pub returns : goal.returns
returns c = laws.ancestors_grow

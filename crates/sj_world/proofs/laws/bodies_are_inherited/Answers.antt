use Rattle.sj_world.proofs.LawsHold.{bodies_inherited}
use Rattle.sj_world.proofs.laws.bodies_are_inherited.Goals as goal

pub returns : goal.returns
returns c = bodies_inherited

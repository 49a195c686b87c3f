use Rattle.class_casts.proofs.Worldly as laws
use Rattle.class_casts.proofs.casts_are_of_the_world.Goals as goal

pub returns : goal.returns
returns c = laws.casts_are_of_the_world

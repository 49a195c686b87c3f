use Rattle.class_casts.proofs.Hijacking as laws
use Rattle.class_casts.proofs.hijacked_casts_are_of_the_world.Goals as goal

pub returns : goal.returns
returns c = laws.hijacked_casts_are_of_the_world

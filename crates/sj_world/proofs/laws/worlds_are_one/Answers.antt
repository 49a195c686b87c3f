use Rattle.sj_world.proofs.OneWorld.{one_world, one_refusal, world_or_refusal}
use Rattle.sj_world.proofs.laws.worlds_are_one.Goals as goal

pub returns : goal.returns
returns c = record { world = one_world; refusal = one_refusal; either = world_or_refusal }

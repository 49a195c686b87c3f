use Rattle.sj_world.proofs.Searches.{NoneYet}
use Rattle.sj_world.proofs.Targets.{IsNarrow}
use Rattle.sj_world.proofs.worlds.World.narrowest.Given as goal

abbrev pub invariant-loop-method : goal.invariant-loop-method
invariant-loop-method l = NoneYet (IsNarrow l.self l.proxy l.methods) l.methods l.method-index

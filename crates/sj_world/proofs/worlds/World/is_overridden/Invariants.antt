use Rattle.sj_world.specs.Resolution.{IsOverride}
use Rattle.sj_world.proofs.Searches.{NoneYet}
use Rattle.sj_world.proofs.worlds.World.is_overridden.Given as goal

abbrev pub invariant-loop-other : goal.invariant-loop-other
invariant-loop-other l = NoneYet (IsOverride l.self l.method l.name) l.above l.other-index

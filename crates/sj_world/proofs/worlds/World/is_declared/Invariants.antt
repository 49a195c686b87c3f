use Rattle.sj_world.specs.Resolution.{IsDeclaredAt}
use Rattle.sj_world.proofs.Searches.{NoneYet}
use Rattle.sj_world.proofs.worlds.World.is_declared.Given as goal

abbrev pub invariant-loop-name : goal.invariant-loop-name
invariant-loop-name l = NoneYet (IsDeclaredAt l.self l.method) l.above l.name-index

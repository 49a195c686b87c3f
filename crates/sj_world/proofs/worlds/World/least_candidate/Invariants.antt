use Rattle.std.proofs.Common.{Contains}
use Rattle.sj_world.proofs.Searches.{NoneYet, Some_candidate}
use Rattle.sj_world.proofs.worlds.World.least_candidate.Given as goal

abbrev pub invariant-loop-name : goal.invariant-loop-name
invariant-loop-name l = NoneYet (Some_candidate l.self (Contains l.ancestors) l.method) l.ancestors l.name-index

use Rattle.sj_world.proofs.Searches.{NoneYet}
use Rattle.sj_world.proofs.Targets.{Declares}
use Rattle.sj_world.proofs.worlds.World.first_chosen.Given as goal

abbrev pub invariant-loop-name : goal.invariant-loop-name
invariant-loop-name l = NoneYet (Declares l.self l.proxy) l.names l.name-index

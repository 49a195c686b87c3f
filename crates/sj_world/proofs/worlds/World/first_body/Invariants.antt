use Rattle.sj_world.proofs.Searches.{NoneYet, Some_body}
use Rattle.sj_world.proofs.worlds.World.first_body.Given as goal

abbrev pub invariant-loop-name : goal.invariant-loop-name
invariant-loop-name l = NoneYet (Some_body l.self l.method) l.names l.name-index

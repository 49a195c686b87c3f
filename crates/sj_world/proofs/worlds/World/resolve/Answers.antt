use Rattle.sj_world.specs.Resolution.{by_chain, by_ancestors, answer}
use Rattle.sj_world.proofs.worlds.World.resolve.Goals as goal

pub returns-in-Some : goal.returns-in-Some
returns-in-Some c = by_chain c.in-Some.found.method.now c.in-Some.found.owner.now c.in-Some.ensures

pub returns-in-None : goal.returns-in-None
returns-in-None c = by_ancestors (answer c.resolve_above.result) c.in-None.ensures c.resolve_above.ensures

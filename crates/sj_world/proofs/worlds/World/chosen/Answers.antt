use Rattle.sj_world.specs.Calls as calls
use Rattle.sj_world.proofs.Bodies.{weaker}
use Rattle.sj_world.proofs.worlds.World.chosen.Goals as goal

pub returns-in-Some : goal.returns-in-Some
returns-in-Some c = calls.narrowest c.in-Some.ensures

pub returns-in-None : goal.returns-in-None
returns-in-None c = weaker c.least_named.result (λ n. n) (λ d h. calls.least c.in-None.ensures h) c.least_named.ensures

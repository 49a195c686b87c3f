use Rattle.sj_world.proofs.Bodies.{weaker, none_on_chain, nearest_is, unknown_none_on_chain}
use Rattle.sj_world.proofs.worlds.World.nearest.Goals as goal

pub returns-in-Some : goal.returns-in-Some
returns-in-Some c = weaker c.first_body.result (none_on_chain c.args.self.now c.args.class.now c.args.method.now c.in-Some.chain.now c.in-Some.ensures.1) (λ f h. nearest_is c.args.self.now c.args.class.now c.args.method.now c.in-Some.chain.now c.in-Some.ensures.1 f.method.now f.owner.now h) c.first_body.ensures

pub returns-in-None : goal.returns-in-None
returns-in-None c = unknown_none_on_chain c.args.self.now c.args.class.now c.in-None.ensures c.args.method.now

use Rattle.sj_world.proofs.Bodies.{weaker}
use Rattle.sj_world.proofs.Targets.{none_on, target_is, unknown_no_target}
use Rattle.sj_world.proofs.worlds.World.proxy_target.Goals as goal

pub returns-in-Some : goal.returns-in-Some
returns-in-Some c = weaker c.first_chosen.result (none_on c.args.self.now c.args.class.now c.args.proxy.now c.in-Some.chain.now c.in-Some.ensures.1) (λ f h. target_is c.args.self.now c.args.class.now c.args.proxy.now c.in-Some.chain.now c.in-Some.ensures.1 f.method.now f.owner.now h) c.first_chosen.ensures

pub returns-in-None : goal.returns-in-None
returns-in-None c = unknown_no_target c.args.self.now c.args.class.now c.in-None.ensures c.args.proxy.now

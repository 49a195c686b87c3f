use Rattle.sj_world.proofs.Bodies.{weaker, no_default, default_is}
use Rattle.std.proofs.Common.{◌∙◌, rules}
use Rattle.sj_world.proofs.ByName.{name_is}
use Rattle.sj_world.proofs.worlds.World.default_at.Goals as goal

pub returns-in-Some : goal.returns-in-Some
returns-in-Some c = weaker c.body_of.result (no_default c.args.self.now c.args.method.now c.args.name.now c.in-Some.class.now c.in-Some.ensures) (λ f h. (default_is c.args.self.now c.args.method.now c.args.name.now c.in-Some.class.now f.method.now c.in-Some.ensures (search rules) h.0, h.1 ∙ name_is c.args.self.now c.args.name.now c.in-Some.class.now c.in-Some.ensures)) c.body_of.ensures

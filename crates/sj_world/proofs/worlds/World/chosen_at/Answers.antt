use Rattle.std.proofs.Common.{◌∙◌}
use Rattle.sj_world.proofs.ByName.{name_is}
use Rattle.sj_world.proofs.Bodies.{weaker}
use Rattle.sj_world.proofs.Targets.{none_named, chosen_is}
use Rattle.sj_world.proofs.worlds.World.chosen_at.Goals as goal

pub returns-in-Some : goal.returns-in-Some
returns-in-Some c = weaker c.chosen_of.result (none_named c.args.self.now c.args.proxy.now c.args.name.now c.in-Some.class.now c.in-Some.ensures) (λ f h. (chosen_is c.args.self.now c.args.proxy.now c.args.name.now c.in-Some.class.now f.method.now c.in-Some.ensures h.0, h.1 ∙ name_is c.args.self.now c.args.name.now c.in-Some.class.now c.in-Some.ensures)) c.chosen_of.ensures

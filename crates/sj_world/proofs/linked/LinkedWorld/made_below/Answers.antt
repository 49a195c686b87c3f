use Rattle.std.proofs.Common.{ap}
use Rattle.sj_world.specs.Linked.{Linked}
use Rattle.sj_world.proofs.Kept.{below_there}
use Rattle.sj_world.proofs.linked.LinkedWorld.made_below.Goals as goal

pub returns : goal.returns
returns c = below_there c.self.inside.world c.args.self.now.world c.self.inside.facts.items c.args.self.now.facts c.self.inside.below c.at.result.now c.args.class.now (ap (λ (l : Linked). l.world) c.self.view_is) (ap (λ (l : Linked). l.facts) c.self.view_is) c.self.invariant.below_right c.at.ensures

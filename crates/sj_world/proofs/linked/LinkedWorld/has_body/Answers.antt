use Rattle.std.proofs.Common.{ap}
use Rattle.sj_world.specs.Linked.{Linked}
use Rattle.sj_world.proofs.Kept.{needed_there}
use Rattle.sj_world.proofs.linked.LinkedWorld.has_body.Goals as goal

pub returns : goal.returns
returns c = needed_there c.self.inside.facts.items c.args.self.now.facts c.self.inside.bodies.keys c.args.member.now c.has_member.result (ap (λ (l : Linked). l.facts) c.self.view_is) c.self.invariant.bodies_right c.has_member.ensures

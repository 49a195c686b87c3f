use Rattle.sj_world.proofs.Kept.{needed_there}
use Rattle.sj_world.proofs.reached.Reached.has_body.Goals as goal

pub returns : goal.returns
returns c = needed_there c.self.inside.facts.keys c.args.self.now c.self.inside.bodies.keys c.args.member.now c.has_member.result c.self.view_is c.self.invariant c.has_member.ensures

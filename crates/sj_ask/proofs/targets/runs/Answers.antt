use Rattle.std.proofs.Common.{refl, false}
use Rattle.sj_ask.proofs.One.{owner_tested, no_owner}
use Rattle.sj_ask.proofs.targets.runs.Goals as goal

pub returns-in-Some : goal.returns-in-Some
returns-in-Some c = owner_tested c.args.world.now c.args.class.now c.args.method.now c.in-Some.found.now c.args.owner.now c.is_same.result c.in-Some.ensures c.is_same.ensures.same

pub returns-in-None : goal.returns-in-None
returns-in-None c = no_owner c.args.world.now c.args.class.now c.args.method.now c.args.owner.now false refl c.in-None.ensures

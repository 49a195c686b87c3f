use Rattle.std.proofs.Common.{arith}
use Rattle.sj_world.proofs.Bodies.{never_overridden}
use Rattle.sj_world.proofs.worlds.World.is_overridden.Goals as goal

pub returns : goal.returns
returns c = (λ h. cc, λ d. absurd (never_overridden c.args.self.now c.args.method.now c.args.name.now c.args.above.now c.loop-other.other-index c.loop-other.invariant (omega arith) d))

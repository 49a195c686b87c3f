use Rattle.std.proofs.Common.{arith}
use Rattle.sj_world.proofs.Bodies.{not_declared}
use Rattle.sj_world.proofs.worlds.World.is_declared.Goals as goal

pub returns : goal.returns
returns c = (λ h. cc, λ d. absurd (not_declared c.args.self.now c.args.method.now c.args.above.now c.loop-name.name-index c.loop-name.invariant (omega arith) d))

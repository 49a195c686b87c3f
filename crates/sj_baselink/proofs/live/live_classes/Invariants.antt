use Rattle.std.proofs.Common.{[]}
use Rattle.sj_world.specs.Ancestors.{IsOnChain}
use Rattle.sj_baselink.specs.Steps.{Puts}
use Rattle.sj_baselink.proofs.Putting.{OfFirst}
use Rattle.sj_baselink.proofs.live.live_classes.Given as goal

abbrev pub invariant-loop-class : goal.invariant-loop-class
invariant-loop-class l = Puts (OfFirst l.made l.class-index (IsOnChain l.w)) [] l.live.keys

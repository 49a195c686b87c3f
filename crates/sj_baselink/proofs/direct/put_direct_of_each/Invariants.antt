use Rattle.sj_baselink.specs.Steps.{Puts, IsDirectOf}
use Rattle.sj_baselink.proofs.Putting.{OfFirst}
use Rattle.sj_baselink.proofs.direct.put_direct_of_each.Given as goal

abbrev pub invariant-loop-class : goal.invariant-loop-class
invariant-loop-class l = Puts (OfFirst l.classes l.class-index (IsDirectOf l.w l.r)) l.fn.entries.keys l.entries.keys

use Rattle.sj_baselink.specs.Steps.{Puts, IsOwnEntry}
use Rattle.sj_baselink.proofs.Putting.{OfFirst}
use Rattle.sj_baselink.proofs.direct.put_own_of_each.Given as goal

abbrev pub invariant-loop-name : goal.invariant-loop-name
invariant-loop-name l = Puts (OfFirst l.names l.name-index (IsOwnEntry l.w l.r l.class)) l.fn.entries.keys l.entries.keys

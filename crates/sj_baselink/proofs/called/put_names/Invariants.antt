use Rattle.std.proofs.Common.{◌≡◌}
use Rattle.sj_baselink.specs.Steps.{Puts}
use Rattle.sj_baselink.proofs.Putting.{OfFirst}
use Rattle.sj_baselink.proofs.called.put_names.Given as goal

abbrev pub invariant-loop-name : goal.invariant-loop-name
invariant-loop-name l = Puts (OfFirst l.more l.name-index (λ x y. x ≡ y)) l.fn.names.keys l.names.keys

use Rattle.std.proofs.Common.{◌≡◌}
use Rattle.sj_baselink.specs.Steps.{Puts}
use Rattle.sj_baselink.proofs.Putting.{OfFirst}
use Rattle.sj_emit_class_needs.specs.declared.needs.ClassNeed.TheVariants.{Live}
use Rattle.sj_emit_class_needs.proofs.live.put_each.Given as goal

abbrev pub invariant-loop-name : goal.invariant-loop-name
invariant-loop-name l = Puts (OfFirst l.names l.name-index (λ c n. Live c ≡ n)) l.fn.needs.keys l.needs.keys

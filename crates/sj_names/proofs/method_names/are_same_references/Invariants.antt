use Rattle.std.proofs.Common.{◌≡◌, drop, length}
use Rattle.std.specs.Prelude.{◌↔◌}
use Rattle.sj_names.proofs.method_names.are_same_references.Given as goal

abbrev pub invariant-loop-i : goal.invariant-loop-i
invariant-loop-i l = (length l.ones ≡ length l.others) × ((drop l.i l.ones ≡ drop l.i l.others) ↔ (l.ones ≡ l.others))

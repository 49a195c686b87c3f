use Rattle.std.proofs.Common.{◌≡◌, drop, length}
use Rattle.std.specs.Prelude.{◌↔◌}
use Rattle.tree_sameness.proofs.methods.are_same_params.Given as goal

abbrev pub invariant-loop-i : goal.invariant-loop-i
invariant-loop-i l = (length l.params ≡ length l.others) × ((drop l.i l.params ≡ drop l.i l.others) ↔ (l.params ≡ l.others))

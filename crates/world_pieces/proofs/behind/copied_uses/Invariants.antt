use Rattle.std.proofs.Common.{◌≡◌, ◌++◌, drop}
use Rattle.world_pieces.proofs.behind.copied_uses.Given as goal

abbrev pub invariant-loop-binding : goal.invariant-loop-binding
invariant-loop-binding l = l.copies.items ++ drop l.binding-index l.bindings ≡ l.bindings

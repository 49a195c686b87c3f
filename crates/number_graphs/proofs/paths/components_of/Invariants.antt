use Rattle.std.proofs.Common.{◌≡◌, ℕ, length}
use Rattle.number_graphs.specs.declared.paths.Found.TheVariants.{Within}
use Rattle.number_graphs.specs.Graphs.{At}
use Rattle.number_graphs.proofs.paths.components_of.Given as goal

abbrev pub invariant-loop-one : goal.invariant-loop-one
invariant-loop-one l = record {
  whole : length l.of.items ≡ l.one-index;
  right : (number component : ℕ) → At l.of.items number component → At l.found number (Within component);
}

use Rattle.std.proofs.Common.{◌≡◌, ℕ, length}
use Rattle.number_graphs.specs.declared.paths.Found.{Found}
use Rattle.number_graphs.specs.declared.paths.Found.TheVariants.{Not}
use Rattle.number_graphs.specs.Graphs.{At}
use Rattle.number_graphs.proofs.paths.unknown.Given as goal

abbrev pub invariant-loop : goal.invariant-loop
invariant-loop l = record {
  count : length l.found.items ≡ l.counter;
  unknown : (number : ℕ) (x : Found) → At l.found.items number x → x ≡ Not;
}

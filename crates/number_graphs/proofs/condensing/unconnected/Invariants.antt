use Rattle.std.proofs.Common.{◌≡◌, ℕ, length}
use Rattle.number_graphs.specs.Graphs.{Leads}
use Rattle.number_graphs.proofs.condensing.unconnected.Given as goal

abbrev pub invariant-loop : goal.invariant-loop
invariant-loop l = record {
  count : length l.graph.items ≡ l.counter;
  none : (from to : ℕ) → Leads l.graph.items from to → ⊥;
}

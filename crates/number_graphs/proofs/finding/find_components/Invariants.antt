use Rattle.std.proofs.Common.{◌≡◌, ℕ, ◌<◌, []}
use Rattle.number_graphs.specs.Searching.{IsRight, IsKnownNumber}
use Rattle.number_graphs.proofs.finding.find_components.Given as goal

abbrev pub invariant-loop-number : goal.invariant-loop-number
invariant-loop-number l = record {
  right : IsRight l.next l.search;
  none_open : l.search.groups.items ≡ [];
  known : (earlier : ℕ) → earlier < l.number → IsKnownNumber l.search earlier;
}

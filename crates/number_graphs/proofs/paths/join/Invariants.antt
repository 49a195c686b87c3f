use Rattle.std.proofs.Common.{length, ◌≤◌}
use Rattle.number_graphs.proofs.Groups.{Joining}
use Rattle.number_graphs.proofs.paths.join.Given as goal

abbrev pub invariant-loop-group : goal.invariant-loop-group
invariant-loop-group l = record {
  joining : Joining l.place l.fn.groups.items l.groups.items;
  fewer : length l.groups.items ≤ length l.fn.groups.items;
}

abbrev pub decreases-loop-group : goal.decreases-loop-group
decreases-loop-group l = length l.groups.items

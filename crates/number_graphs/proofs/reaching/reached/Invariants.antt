use Rattle.std.proofs.Common.{◌+◌, ◌*◌, length}
use Rattle.number_graphs.specs.Marks.{unmarked}
use Rattle.number_graphs.proofs.Marked.{Reaching}
use Rattle.number_graphs.proofs.reaching.reached.Given as goal

abbrev pub invariant-loop-number : goal.invariant-loop-number
invariant-loop-number l = Reaching l.next l.starts l.marks.items l.pending.items

abbrev pub decreases-loop-number : goal.decreases-loop-number
decreases-loop-number l = 2 * unmarked l.marks.items + length l.pending.items

use Rattle.std.proofs.Common.{take}
use Rattle.number_graphs.specs.Marks.{IsMarking}
use Rattle.number_graphs.proofs.reaching.mark_all.Given as goal

abbrev pub invariant-loop-number : goal.invariant-loop-number
invariant-loop-number l = IsMarking (take l.number-index l.numbers) l.fn.marks.items l.fn.pending.items l.marks.items l.pending.items

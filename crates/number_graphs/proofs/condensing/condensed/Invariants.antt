use Rattle.std.proofs.Common.{length}
use Rattle.number_graphs.proofs.Connected.{IsPartly}
use Rattle.number_graphs.proofs.condensing.condensed.Given as goal

abbrev pub invariant-loop-number : goal.invariant-loop-number
invariant-loop-number l = IsPartly l.next l.components.of.items (length l.components.firsts.items) l.number l.graph.items

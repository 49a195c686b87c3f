use Rattle.std.proofs.Common.{take}
use Rattle.number_graphs.specs.Condensed.{IsConnected}
use Rattle.number_graphs.proofs.condensing.connect.Given as goal

abbrev pub invariant-loop-number : goal.invariant-loop-number
invariant-loop-number l = IsConnected l.of (take l.number-index l.numbers) l.component l.fn.graph.items l.graph.items

use Rattle.std.proofs.Common.{◌-◌, ◌^◌}
use Rattle.worklist.specs.Search.{Found}
use Rattle.worklist.proofs.searching.search.Given as goal

abbrev pub invariant-loop-next : goal.invariant-loop-next
invariant-loop-next g l = Found g.K.PartialEq.eq (g.S.Step.next l.step) l.fn.found.keys l.next l.found.keys

abbrev pub decreases-loop-next : goal.decreases-loop-next
decreases-loop-next g l = 2 ^ 64 - l.next

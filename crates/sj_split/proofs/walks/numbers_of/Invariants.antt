use Rattle.std.proofs.Common.{take}
use Rattle.sj_split.specs.Steps.{AreNumbersOf}
use Rattle.sj_split.proofs.walks.numbers_of.Given as goal

abbrev pub invariant-loop-place : goal.invariant-loop-place
invariant-loop-place l = AreNumbersOf l.numbers.classes.keys (take l.place l.classes.keys) l.list.items

use Rattle.std.proofs.Common.{take}
use Rattle.sj_split.specs.Steps.{AreComponentsOf}
use Rattle.sj_split.proofs.walks.components_of.Given as goal

abbrev pub invariant-loop-place : goal.invariant-loop-place
invariant-loop-place l = AreComponentsOf l.numbers.classes.keys l.of (take l.place l.classes.keys) l.list.items

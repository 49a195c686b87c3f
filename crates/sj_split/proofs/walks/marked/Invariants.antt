use Rattle.std.proofs.Common.{take, Contains}
use Rattle.std.specs.Prelude.{◌↔◌}
use Rattle.sj_split.specs.Walks.{Name}
use Rattle.sj_split.specs.Steps.{IsMarked}
use Rattle.sj_split.proofs.walks.marked.Given as goal

abbrev pub invariant-loop-number : goal.invariant-loop-number
invariant-loop-number l = (class : Name) → Contains l.list.items class ↔ IsMarked (take l.number l.numbers.classes.keys) l.marks class

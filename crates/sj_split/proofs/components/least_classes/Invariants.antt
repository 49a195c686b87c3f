use Rattle.sj_split.proofs.Least.{Lowering}
use Rattle.sj_split.proofs.components.least_classes.Given as goal

abbrev pub invariant-loop-number : goal.invariant-loop-number
invariant-loop-number l = Lowering l.numbers.classes.keys l.of l.number l.least.items

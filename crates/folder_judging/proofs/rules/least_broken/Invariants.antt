use Rattle.folder_judging.proofs.Ruled.{IsLeastInFirst}
use Rattle.folder_judging.proofs.rules.least_broken.Given as goal

abbrev pub invariant-loop-class : goal.invariant-loop-class
invariant-loop-class l = IsLeastInFirst l.classes l.class-index l.least

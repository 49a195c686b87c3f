use Rattle.sj_reach.specs.Steps as steps
use Rattle.sj_trees.specs.declared.classes.ClassKind.TheVariants.{Interface}
use Rattle.sj_reach.proofs.Adding.{AmongFirst}
use Rattle.sj_reach.specs.Conclusions.{Adds}
use Rattle.sj_reach.proofs.needed.need_interfaces.Given as goal

abbrev pub invariant-loop-name : goal.invariant-loop-name
invariant-loop-name l = Adds (AmongFirst l.interfaces l.name-index (steps.OfClass l.world Interface)) l.fn.found l.found

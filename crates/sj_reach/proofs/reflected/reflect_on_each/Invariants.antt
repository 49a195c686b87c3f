use Rattle.sj_reach.specs.Steps as steps
use Rattle.sj_reach.proofs.Adding.{AmongFirst}
use Rattle.sj_reach.specs.Conclusions.{Adds}
use Rattle.sj_reach.proofs.reflected.reflect_on_each.Given as goal

abbrev pub invariant-loop-class : goal.invariant-loop-class
invariant-loop-class l = Adds (AmongFirst l.classes l.class-index (steps.OfProxy l.world l.proxy)) l.fn.found l.found

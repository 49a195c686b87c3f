use Rattle.sj_reach.specs.Steps as steps
use Rattle.sj_reach.proofs.Adding.{AmongFirst}
use Rattle.sj_reach.specs.Conclusions.{Adds}
use Rattle.sj_reach.proofs.dispatched.dispatch_on_each_below.Given as goal

abbrev pub invariant-loop-class : goal.invariant-loop-class
invariant-loop-class l = Adds (AmongFirst l.classes l.class-index (steps.OfBelow l.world l.method l.above)) l.fn.found l.found

use Rattle.sj_reach.specs.Steps as steps
use Rattle.class_lists.specs.Lists.{items_at}
use Rattle.sj_reach.specs.Conclusions.{Among}
use Rattle.sj_reach.proofs.Adding.{AmongFirst}
use Rattle.sj_reach.specs.Conclusions.{Adds}
use Rattle.sj_reach.proofs.dispatched.dispatch_from_each.Given as goal

abbrev pub invariant-loop-ancestor : goal.invariant-loop-ancestor
invariant-loop-ancestor l = Adds (AmongFirst l.ancestors l.ancestor-index (λ above. Among (items_at l.called above) (λ m. steps.OfDispatch l.world m l.class))) l.fn.found l.found

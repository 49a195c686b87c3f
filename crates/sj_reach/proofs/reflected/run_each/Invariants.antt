use Rattle.sj_reach.specs.Steps as steps
use Rattle.sj_reach.proofs.Adding.{AmongFirst}
use Rattle.sj_reach.specs.Conclusions.{Adds}
use Rattle.sj_reach.proofs.reflected.run_each.Given as goal

abbrev pub invariant-loop-method : goal.invariant-loop-method
invariant-loop-method l = Adds (AmongFirst l.methods l.method-index (λ m. steps.Answered l.world l.class m (steps.at_hijacked l.world l.class m))) l.fn.found l.found

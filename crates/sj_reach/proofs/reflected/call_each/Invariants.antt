use Rattle.sj_reach.specs.Conclusions.{Just, follows}
use Rattle.sj_world.specs.declared.facts.Fact.TheVariants.{Called}
use Rattle.sj_reach.proofs.Adding.{AmongFirst}
use Rattle.sj_reach.specs.Conclusions.{Adds}
use Rattle.sj_reach.proofs.reflected.call_each.Given as goal

abbrev pub invariant-loop-method : goal.invariant-loop-method
invariant-loop-method l = Adds (AmongFirst l.methods l.method-index (λ m. Just (follows (Called l.class m)))) l.fn.found l.found

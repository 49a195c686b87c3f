use Rattle.sj_local.proofs.RuleSteps.{Leads}
use Rattle.sj_local.proofs.places.check_class.Given as goal

abbrev pub invariant-loop-rule : goal.invariant-loop-rule
invariant-loop-rule l = Leads l.class l.rule-index

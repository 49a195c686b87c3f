use Rattle.std.proofs.Common.{◌≡◌, drop}
use Rattle.sj_desugar_spec.specs.Finalizers.{hold_finally, cases_hold_finally}
use Rattle.sj_desugar_finalizers.proofs.walks.+holding.Given as goal
use Rattle.sj_trees.specs.View.{terms_view, cases_view}

abbrev pub invariant-hold_finally-loop-each : goal.invariant-hold_finally-loop-each
invariant-hold_finally-loop-each l = hold_finally (terms_view (drop l.each-index l.trees)) ≡ hold_finally (terms_view l.trees)

abbrev pub invariant-cases_hold_finally-loop-each : goal.invariant-cases_hold_finally-loop-each
invariant-cases_hold_finally-loop-each l = cases_hold_finally (cases_view (drop l.each-index l.cases)) ≡ cases_hold_finally (cases_view l.cases)

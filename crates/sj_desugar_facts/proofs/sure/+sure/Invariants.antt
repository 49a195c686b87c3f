use Rattle.std.proofs.Common.{◌≡◌, drop}
use Rattle.sj_desugar_facts.proofs.sure.+sure.Given as goal
use Rattle.sj_desugar_facts.specs.Definitions.{sure_in_all, sure_in_cases}
use Rattle.sj_trees.specs.View.{terms_view, cases_view}

abbrev pub invariant-add_all_sure-loop-each : goal.invariant-add_all_sure-loop-each
invariant-add_all_sure-loop-each l = sure_in_all (terms_view (drop l.each-index l.trees)) l.sure.items ≡ sure_in_all (terms_view l.trees) l.fn.sure.items

abbrev pub invariant-add_sure_of_cases-loop-each : goal.invariant-add_sure_of_cases-loop-each
invariant-add_sure_of_cases-loop-each l = sure_in_cases (cases_view (drop l.each-index l.cases)) l.sure.items ≡ sure_in_cases (cases_view l.cases) l.fn.sure.items

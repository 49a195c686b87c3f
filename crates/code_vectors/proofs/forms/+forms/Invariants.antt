use Rattle.std.proofs.Common.{◌≡◌, drop}
use Rattle.code_vectors.specs.Forms.{are_static, are_static_cases}
use Rattle.code_vectors.proofs.forms.+forms.Given as goal
use Rattle.sj_trees.specs.View.{terms_view, cases_view}

abbrev pub invariant-are_static_trees-loop-each : goal.invariant-are_static_trees-loop-each
invariant-are_static_trees-loop-each l = are_static (terms_view (drop l.each-index l.trees)) ≡ are_static (terms_view l.trees)

abbrev pub invariant-are_static_cases-loop-each : goal.invariant-are_static_cases-loop-each
invariant-are_static_cases-loop-each l = are_static_cases (cases_view (drop l.each-index l.cases)) ≡ are_static_cases (cases_view l.cases)

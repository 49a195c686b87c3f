use Rattle.std.proofs.Common.{◌≡◌, ◌≤◌, drop, length, reverse}
use Rattle.sj_desugar_spec.specs.Plain.{mutable_in_all, mutable_in_cases}
use Rattle.sj_desugar_facts.proofs.locals.+locals.Given as goal
use Rattle.sj_trees.specs.View.{terms_view, cases_view}

abbrev pub invariant-add_all_mutable-loop-left : goal.invariant-add_all_mutable-loop-left
invariant-add_all_mutable-loop-left l = record { within : l.left ≤ length l.trees; so_far : reverse l.names.items ≡ mutable_in_all (terms_view (drop l.left l.trees)) (reverse l.fn.names.items) }

abbrev pub invariant-add_mutable_of_cases-loop-left : goal.invariant-add_mutable_of_cases-loop-left
invariant-add_mutable_of_cases-loop-left l = record { within : l.left ≤ length l.cases; so_far : reverse l.names.items ≡ mutable_in_cases (cases_view (drop l.left l.cases)) (reverse l.fn.names.items) }

abbrev pub decreases-add_all_mutable-loop-left : goal.decreases-add_all_mutable-loop-left
decreases-add_all_mutable-loop-left l = l.left

abbrev pub decreases-add_mutable_of_cases-loop-left : goal.decreases-add_mutable_of_cases-loop-left
decreases-add_mutable_of_cases-loop-left l = l.left

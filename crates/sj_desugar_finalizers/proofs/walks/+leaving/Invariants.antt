use Rattle.std.proofs.Common.{◌≡◌, ◌+◌, ◌*◌, ◌++◌, drop, map}
use Rattle.sj_desugar_spec.specs.Finalizers.{all_left_labels, cases_left_labels}
use Rattle.sj_desugar_finalizers.proofs.walks.+leaving.Given as goal
use Rattle.sj_trees.specs.View.{view, terms_view, cases_view}
use Rattle.tree_parts.specs.Sizes.{size, size_of_all, size_of_cases}

abbrev pub invariant-add_all-loop-each : goal.invariant-add_all-loop-each
invariant-add_all-loop-each l = map (λ x. x.now) l.found.items ++ all_left_labels (map (λ x. x.now) l.inner) (terms_view (drop l.each-index l.trees)) ≡ map (λ x. x.now) l.fn.found.items ++ all_left_labels (map (λ x. x.now) l.inner) (terms_view l.trees)

abbrev pub invariant-add_cases-loop-each : goal.invariant-add_cases-loop-each
invariant-add_cases-loop-each l = map (λ x. x.now) l.found.items ++ cases_left_labels (map (λ x. x.now) l.inner) (cases_view (drop l.each-index l.cases)) ≡ map (λ x. x.now) l.fn.found.items ++ cases_left_labels (map (λ x. x.now) l.inner) (cases_view l.cases)

abbrev pub decreases-add : goal.decreases-add
decreases-add l = 4 * size (view l.tree.now) + 1

abbrev pub decreases-add_parts : goal.decreases-add_parts
decreases-add_parts l = 4 * size (view l.tree.now)

abbrev pub decreases-add_all : goal.decreases-add_all
decreases-add_all l = 4 * size_of_all (terms_view l.trees.now) + 2

abbrev pub decreases-add_cases : goal.decreases-add_cases
decreases-add_cases l = 4 * size_of_cases (cases_view l.cases.now) + 2

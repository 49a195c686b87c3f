use Rattle.std.proofs.Common.{◌≡◌, ◌+◌, ◌*◌, ◌++◌, drop, map}
use Rattle.sj_trees.specs.View.{view, terms_view, cases_view}
use Rattle.tree_parts.specs.Sizes.{size, size_of_all, size_of_cases}
use Rattle.sj_infos.specs.Trees.{all_below, cases_below}
use Rattle.sj_infos.proofs.trees.+adding.Given as goal

abbrev pub invariant-add_all-loop-tree : goal.invariant-add_all-loop-tree
invariant-add_all-loop-tree l = map (λ t. view t.now) l.found.items ++ all_below (terms_view (drop l.tree-index l.trees)) ≡ map (λ t. view t.now) l.fn.found.items ++ all_below (terms_view l.trees)

abbrev pub invariant-add_cases-loop-case : goal.invariant-add_cases-loop-case
invariant-add_cases-loop-case l = map (λ t. view t.now) l.found.items ++ cases_below (cases_view (drop l.case-index l.cases)) ≡ map (λ t. view t.now) l.fn.found.items ++ cases_below (cases_view l.cases)

abbrev pub decreases-add : goal.decreases-add
decreases-add l = 2 * size (view l.tree.now)

abbrev pub decreases-add_all : goal.decreases-add_all
decreases-add_all l = 2 * size_of_all (terms_view l.trees.now) + 1

abbrev pub decreases-add_cases : goal.decreases-add_cases
decreases-add_cases l = 2 * size_of_cases (cases_view l.cases.now) + 1

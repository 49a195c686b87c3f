use Rattle.std.proofs.Common.{◌≡◌, ◌+◌, ◌*◌, ◌++◌, drop}
use Rattle.sj_trees.specs.View.{view, terms_view, cases_view}
use Rattle.tree_parts.specs.Parts.{seen}
use Rattle.tree_parts.specs.Sizes.{size, size_of_all, size_of_cases, size_of_parts}
use Rattle.sj_canon.specs.Terms.{terms_bytes, cases_bytes}
use Rattle.sj_canon.proofs.trees.+put.Given as goal

abbrev pub invariant-put_trees-loop-i : goal.invariant-put_trees-loop-i
invariant-put_trees-loop-i l = l.out.items ++ terms_bytes (terms_view (drop l.i l.trees)) ≡ l.fn.out.items ++ terms_bytes (terms_view l.trees)

abbrev pub invariant-put_cases-loop-i : goal.invariant-put_cases-loop-i
invariant-put_cases-loop-i l = l.out.items ++ cases_bytes (cases_view (drop l.i l.cases)) ≡ l.fn.out.items ++ cases_bytes (cases_view l.cases)

abbrev pub decreases-put_tree : goal.decreases-put_tree
decreases-put_tree l = 4 * size (view l.tree.now)

abbrev pub decreases-put_parts : goal.decreases-put_parts
decreases-put_parts l = 4 * size_of_parts (seen l.parts) + 3

abbrev pub decreases-put_trees : goal.decreases-put_trees
decreases-put_trees l = 4 * size_of_all (terms_view l.trees.now) + 2

abbrev pub decreases-put_cases : goal.decreases-put_cases
decreases-put_cases l = 4 * size_of_cases (cases_view l.cases.now) + 2

abbrev pub decreases-put_case : goal.decreases-put_case
decreases-put_case l = 4 * size (view l.case.now.body) + 1

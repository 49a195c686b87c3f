use Rattle.std.proofs.Common.{◌≡◌, ◌+◌, ◌*◌, drop, length}
use Rattle.std.specs.Prelude.{◌↔◌}
use Rattle.sj_trees.specs.View.{view, terms_view, cases_view}
use Rattle.tree_parts.specs.Parts.{seen}
use Rattle.tree_parts.specs.Sizes.{size, size_of_all, size_of_cases, size_of_parts}
use Rattle.sj_trees.specs.Erase.{erase_all, erase_cases}
use Rattle.tree_sameness.proofs.trees.+same.Given as goal

abbrev pub invariant-are_same_trees-loop-i : goal.invariant-are_same_trees-loop-i
invariant-are_same_trees-loop-i l = (length l.trees ≡ length l.others) × ((erase_all (terms_view (drop l.i l.trees)) ≡ erase_all (terms_view (drop l.i l.others))) ↔ (erase_all (terms_view l.trees) ≡ erase_all (terms_view l.others)))

abbrev pub invariant-are_same_cases-loop-i : goal.invariant-are_same_cases-loop-i
invariant-are_same_cases-loop-i l = (length l.cases ≡ length l.others) × ((erase_cases (cases_view (drop l.i l.cases)) ≡ erase_cases (cases_view (drop l.i l.others))) ↔ (erase_cases (cases_view l.cases) ≡ erase_cases (cases_view l.others)))

abbrev pub decreases-is_same_tree : goal.decreases-is_same_tree
decreases-is_same_tree l = 4 * size (view l.tree.now)

abbrev pub decreases-are_same_parts : goal.decreases-are_same_parts
decreases-are_same_parts l = 4 * size_of_parts (seen l.parts) + 3

abbrev pub decreases-are_same_trees : goal.decreases-are_same_trees
decreases-are_same_trees l = 4 * size_of_all (terms_view l.trees.now) + 2

abbrev pub decreases-are_same_cases : goal.decreases-are_same_cases
decreases-are_same_cases l = 4 * size_of_cases (cases_view l.cases.now) + 2

abbrev pub decreases-is_same_case : goal.decreases-is_same_case
decreases-is_same_case l = 4 * size (view l.case.now.body) + 1

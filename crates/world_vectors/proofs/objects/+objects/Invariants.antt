use Rattle.std.proofs.Common.{◌+◌, ◌*◌, drop}
use Rattle.sj_emit_expr_pieces.specs.Owners.{AllOnObjects, CasesOnObjects}
use Rattle.sj_trees.specs.View.{view, terms_view, cases_view}
use Rattle.tree_parts.specs.Sizes.{size, size_of_all, size_of_cases}
use Rattle.world_vectors.proofs.objects.+objects.Given as goal

abbrev pub invariant-are_on_objects-loop-tree : goal.invariant-are_on_objects-loop-tree
invariant-are_on_objects-loop-tree l = AllOnObjects (terms_view (drop l.tree-index l.trees)) → AllOnObjects (terms_view l.trees)

abbrev pub invariant-are_cases_on_objects-loop-case : goal.invariant-are_cases_on_objects-loop-case
invariant-are_cases_on_objects-loop-case l = CasesOnObjects (cases_view (drop l.case-index l.cases)) → CasesOnObjects (cases_view l.cases)

abbrev pub decreases-is_on_objects : goal.decreases-is_on_objects
decreases-is_on_objects l = 3 * size (view l.tree.now) + 1

abbrev pub decreases-are_parts_on_objects : goal.decreases-are_parts_on_objects
decreases-are_parts_on_objects l = 3 * size (view l.tree.now)

abbrev pub decreases-are_on_objects : goal.decreases-are_on_objects
decreases-are_on_objects l = 3 * size_of_all (terms_view l.trees.now) + 2

abbrev pub decreases-are_cases_on_objects : goal.decreases-are_cases_on_objects
decreases-are_cases_on_objects l = 3 * size_of_cases (cases_view l.cases.now) + 2

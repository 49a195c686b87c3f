use Rattle.std.proofs.Common.{arith}
use Rattle.tree_parts.proofs.Items.{size_of_item, size_of_case}
use Rattle.sj_trees.specs.View.{view}
use Rattle.world_vectors.proofs.NextCase.{next_case}
use Rattle.world_vectors.proofs.Parted.{on_objects}
use Rattle.world_vectors.proofs.objects.+objects.Goals as goal

pub are_on_objects-is_on_objects-requires : goal.are_on_objects-is_on_objects-requires
are_on_objects-is_on_objects-requires t c = (omega (arith, c.decreases, size_of_item c.args.trees.now c.loop-tree.tree-index c.tree-item.result c.loop-tree-test.true c.tree-item.is), tt)

pub are_cases_on_objects-is_on_objects-requires : goal.are_cases_on_objects-is_on_objects-requires
are_cases_on_objects-is_on_objects-requires t c = (omega (arith, c.decreases, size_of_case c.args.cases.now c.loop-case.case-index c.case-item.result c.loop-case-test.true c.case-item.is), tt)

pub are_cases_on_objects-loop-case-preserved : goal.are_cases_on_objects-loop-case-preserved
are_cases_on_objects-loop-case-preserved t c = λ h. c.loop-case.invariant (next_case c.args.cases.now c.loop-case.case-index c.case-item.result c.loop-case-test.true c.case-item.is (c.is_on_objects.ensures c.if-not-is_on_objects.false) h)

pub is_on_objects-returns-then-is_of_object : goal.is_on_objects-returns-then-is_of_object
is_on_objects-returns-then-is_of_object t c = λ h. on_objects (view c.args.tree.now) (c.is_of_object.ensures c.if-is_of_object.true) (c.are_parts_on_objects.ensures h)

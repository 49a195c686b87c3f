use Rattle.std.proofs.Common.{◌≡◌, ◌-◌, ◌*◌, ◌+◌, map}
use Rattle.sj_trees.specs.View.{view, view_case}
use Rattle.sj_read_spec.specs.Reading.{many_at}
use Rattle.sj_read_spec.specs.Trees.{tree_at, case_at}
use Rattle.sj_read_trees.proofs.ManyLemmas.{with_front}
use Rattle.sj_read_trees.proofs.trees.+trees.Given as goal

abbrev pub decreases-tree_of : goal.decreases-tree_of
decreases-tree_of l = 6 * l.depth

abbrev pub decreases-boxed_of : goal.decreases-boxed_of
decreases-boxed_of l = 6 * l.depth + 1

abbrev pub decreases-case_of : goal.decreases-case_of
decreases-case_of l = 6 * l.depth + 1

abbrev pub decreases-trees_of : goal.decreases-trees_of
decreases-trees_of l = 6 * l.depth + 2

abbrev pub decreases-cases_of : goal.decreases-cases_of
decreases-cases_of l = 6 * l.depth + 2

abbrev pub decreases-var_def_of : goal.decreases-var_def_of
decreases-var_def_of l = 6 * l.depth + 3

abbrev pub decreases-block_of : goal.decreases-block_of
decreases-block_of l = 6 * l.depth + 3

abbrev pub decreases-labeled_of : goal.decreases-labeled_of
decreases-labeled_of l = 6 * l.depth + 3

abbrev pub decreases-assign_of : goal.decreases-assign_of
decreases-assign_of l = 6 * l.depth + 3

abbrev pub decreases-return_of : goal.decreases-return_of
decreases-return_of l = 6 * l.depth + 3

abbrev pub decreases-throw_of : goal.decreases-throw_of
decreases-throw_of l = 6 * l.depth + 3

abbrev pub decreases-store_module_of : goal.decreases-store_module_of
decreases-store_module_of l = 6 * l.depth + 3

abbrev pub decreases-log_of : goal.decreases-log_of
decreases-log_of l = 6 * l.depth + 3

abbrev pub decreases-if_of : goal.decreases-if_of
decreases-if_of l = 6 * l.depth + 3

abbrev pub decreases-while_of : goal.decreases-while_of
decreases-while_of l = 6 * l.depth + 3

abbrev pub decreases-do_while_of : goal.decreases-do_while_of
decreases-do_while_of l = 6 * l.depth + 3

abbrev pub decreases-try_catch_of : goal.decreases-try_catch_of
decreases-try_catch_of l = 6 * l.depth + 3

abbrev pub decreases-try_finally_of : goal.decreases-try_finally_of
decreases-try_finally_of l = 6 * l.depth + 3

abbrev pub decreases-match_of : goal.decreases-match_of
decreases-match_of l = 6 * l.depth + 3

abbrev pub decreases-new_of : goal.decreases-new_of
decreases-new_of l = 6 * l.depth + 3

abbrev pub decreases-select_of : goal.decreases-select_of
decreases-select_of l = 6 * l.depth + 3

abbrev pub decreases-apply_of : goal.decreases-apply_of
decreases-apply_of l = 6 * l.depth + 3

abbrev pub decreases-apply_statically_of : goal.decreases-apply_statically_of
decreases-apply_statically_of l = 6 * l.depth + 3

abbrev pub decreases-apply_static_of : goal.decreases-apply_static_of
decreases-apply_static_of l = 6 * l.depth + 3

abbrev pub decreases-unary_op_of : goal.decreases-unary_op_of
decreases-unary_op_of l = 6 * l.depth + 3

abbrev pub decreases-binary_op_of : goal.decreases-binary_op_of
decreases-binary_op_of l = 6 * l.depth + 3

abbrev pub decreases-new_array_of : goal.decreases-new_array_of
decreases-new_array_of l = 6 * l.depth + 3

abbrev pub decreases-array_value_of : goal.decreases-array_value_of
decreases-array_value_of l = 6 * l.depth + 3

abbrev pub decreases-array_length_of : goal.decreases-array_length_of
decreases-array_length_of l = 6 * l.depth + 3

abbrev pub decreases-array_select_of : goal.decreases-array_select_of
decreases-array_select_of l = 6 * l.depth + 3

abbrev pub decreases-is_instance_of_of : goal.decreases-is_instance_of_of
decreases-is_instance_of_of l = 6 * l.depth + 3

abbrev pub decreases-as_instance_of_of : goal.decreases-as_instance_of_of
decreases-as_instance_of_of l = 6 * l.depth + 3

abbrev pub decreases-statement_of : goal.decreases-statement_of
decreases-statement_of l = 6 * l.depth + 4

abbrev pub decreases-branch_of : goal.decreases-branch_of
decreases-branch_of l = 6 * l.depth + 4

abbrev pub decreases-call_of : goal.decreases-call_of
decreases-call_of l = 6 * l.depth + 4

abbrev pub decreases-operation_of : goal.decreases-operation_of
decreases-operation_of l = 6 * l.depth + 4

abbrev pub invariant-trees_of-loop : goal.invariant-trees_of-loop
invariant-trees_of-loop l = with_front (map view l.trees.items) (many_at (tree_at l.depth l.tables) (l.count - l.counter) l.rest) ≡ many_at (tree_at l.depth l.tables) l.count l.bytes

abbrev pub invariant-cases_of-loop : goal.invariant-cases_of-loop
invariant-cases_of-loop l = with_front (map view_case l.cases.items) (many_at (case_at (tree_at l.depth l.tables)) (l.count - l.counter) l.rest) ≡ many_at (case_at (tree_at l.depth l.tables)) l.count l.bytes

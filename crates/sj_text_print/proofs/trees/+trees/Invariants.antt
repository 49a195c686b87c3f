use Rattle.std.proofs.Common.{◌≡◌, drop, map, ◌+◌, ◌*◌}
use Rattle.sj_trees.specs.View.{view, terms_view, cases_view}
use Rattle.tree_parts.specs.Sizes.{size, size_of_all, size_of_cases}
use Rattle.tree_fields.specs.Fields.{field_seen, size_of_field, size_of_fields}
use Rattle.sj_text_spec.specs.Texts.{put_more_trees, put_more_cases}
use Rattle.sj_text_print.specs.TreeFields.{put_fields}
use Rattle.sj_text_print.proofs.trees.+trees.Given as goal

abbrev pub invariant-append_trees-loop-each : goal.invariant-append_trees-loop-each
invariant-append_trees-loop-each l = put_more_trees (terms_view (drop l.each-index l.others)) l.out.items ≡ put_more_trees (terms_view l.others) l.initial.out.items

abbrev pub invariant-append_cases-loop-each : goal.invariant-append_cases-loop-each
invariant-append_cases-loop-each l = put_more_cases (cases_view (drop l.each-index l.others)) l.out.items ≡ put_more_cases (cases_view l.others) l.initial.out.items

abbrev pub invariant-append_fields-loop-field : goal.invariant-append_fields-loop-field
invariant-append_fields-loop-field l = put_fields (map field_seen (drop l.field-index l.fields)) l.out.items ≡ put_fields (map field_seen l.fields) l.initial.out.items

abbrev pub decreases-append_tree : goal.decreases-append_tree
decreases-append_tree l = 8 * size (view l.tree.now)

abbrev pub decreases-append_fields : goal.decreases-append_fields
decreases-append_fields l = 8 * size_of_fields (map field_seen l.fields.now) + 6

abbrev pub decreases-append_field : goal.decreases-append_field
decreases-append_field l = 8 * size_of_field (field_seen l.field) + 5

abbrev pub decreases-trees_part : goal.decreases-trees_part
decreases-trees_part l = 8 * size_of_all (terms_view l.trees.now) + 4

abbrev pub decreases-cases_part : goal.decreases-cases_part
decreases-cases_part l = 8 * size_of_cases (cases_view l.cases.now) + 4

abbrev pub decreases-append_trees : goal.decreases-append_trees
decreases-append_trees l = 8 * size_of_all (terms_view l.trees.now) + 3

abbrev pub decreases-append_cases : goal.decreases-append_cases
decreases-append_cases l = 8 * size_of_cases (cases_view l.cases.now) + 3

abbrev pub decreases-append_case : goal.decreases-append_case
decreases-append_case l = 8 * size (view l.case.now.body) + 2

abbrev pub decreases-tree_part : goal.decreases-tree_part
decreases-tree_part l = 8 * size (view l.tree.now) + 1

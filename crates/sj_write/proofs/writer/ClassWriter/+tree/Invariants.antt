use Rattle.std.proofs.Common.{◌≡◌, drop, map, ◌+◌, ◌*◌}
use Rattle.sj_trees.specs.View.{view, terms_view, cases_view}
use Rattle.sj_write_spec.specs.Fields.{HasFiles}
use Rattle.sj_write_spec.specs.Trees.{each_term, each_case}
use Rattle.sj_write.specs.TreeFields.{fields_written}
use Rattle.sj_write.specs.Writing.{put}
use Rattle.tree_fields.specs.Fields.{field_seen, size_of_field, size_of_fields}
use Rattle.tree_parts.specs.Sizes.{size, size_of_all, size_of_cases}
use Rattle.sj_write.proofs.writer.ClassWriter.+tree.Given as goal

abbrev pub invariant-trees-loop-each : goal.invariant-trees-loop-each
invariant-trees-loop-each l = (put (each_term l.files (terms_view (drop l.each-index l.trees))) l.self ≡ put (each_term l.files (terms_view l.trees)) l.initial.self) × HasFiles (each_term l.files (terms_view (drop l.each-index l.trees)))

abbrev pub invariant-cases-loop-each : goal.invariant-cases-loop-each
invariant-cases-loop-each l = (put (each_case l.files (cases_view (drop l.each-index l.cases))) l.self ≡ put (each_case l.files (cases_view l.cases)) l.initial.self) × HasFiles (each_case l.files (cases_view (drop l.each-index l.cases)))

abbrev pub invariant-fields_of_tree-loop-each : goal.invariant-fields_of_tree-loop-each
invariant-fields_of_tree-loop-each l = (put (fields_written l.files (map field_seen (drop l.each-index l.fields))) l.self ≡ put (fields_written l.files (map field_seen l.fields)) l.initial.self) × HasFiles (fields_written l.files (map field_seen (drop l.each-index l.fields)))

abbrev pub decreases-tree : goal.decreases-tree
decreases-tree l = 4 * size (view l.tree.now)

abbrev pub decreases-fields_of_tree : goal.decreases-fields_of_tree
decreases-fields_of_tree l = 4 * size_of_fields (map field_seen l.fields.now) + 3

abbrev pub decreases-field_of_tree : goal.decreases-field_of_tree
decreases-field_of_tree l = 4 * size_of_field (field_seen l.field) + 2

abbrev pub decreases-trees : goal.decreases-trees
decreases-trees l = 4 * size_of_all (terms_view l.trees.now) + 1

abbrev pub decreases-cases : goal.decreases-cases
decreases-cases l = 4 * size_of_cases (cases_view l.cases.now) + 1

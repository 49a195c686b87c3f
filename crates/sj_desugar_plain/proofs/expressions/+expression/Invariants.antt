use Rattle.std.proofs.Common.{◌≡◌, ◌++◌, drop, map}
use Rattle.sj_core.specs.Views.{expression_view}
use Rattle.sj_desugar_spec.specs.Coercions.{coerced_arguments, coerced_items}
use Rattle.sj_desugar_spec.specs.Desugar.{types_of, all_expressions}
use Rattle.sj_desugar_spec.specs.Plain.{is_among}
use Rattle.sj_desugar_plain.proofs.expressions.+expression.Given as goal
use Rattle.sj_trees.specs.View.{terms_view}

abbrev pub invariant-arguments_of-loop-each : goal.invariant-arguments_of-loop-each
invariant-arguments_of-loop-each l = map expression_view l.arguments.items ++ coerced_arguments l.left (types_of (terms_view (drop l.each-index l.trees))) (all_expressions (is_among l.sure) (terms_view (drop l.each-index l.trees))) ≡ coerced_arguments l.params (types_of (terms_view l.trees)) (all_expressions (is_among l.sure) (terms_view l.trees))

abbrev pub invariant-items_of-loop-each : goal.invariant-items_of-loop-each
invariant-items_of-loop-each l = map expression_view l.items.items ++ coerced_items l.tpe (types_of (terms_view (drop l.each-index l.trees))) (all_expressions (is_among l.sure) (terms_view (drop l.each-index l.trees))) ≡ coerced_items l.tpe (types_of (terms_view l.trees)) (all_expressions (is_among l.sure) (terms_view l.trees))

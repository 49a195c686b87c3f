use Rattle.std.proofs.Common.{◌≡◌, drop, map}
use Rattle.sj_core.specs.Views.{expression_view, case_view}
use Rattle.sj_desugar_spec.specs.Desugar.{block, cases, operands, types_of}
use Rattle.sj_desugar_spec.specs.Plain.{is_among}
use Rattle.sj_desugar_spec.specs.Spill.{joined, spill}
use Rattle.sj_desugar_forms.specs.Arguments.{with_arguments, with_items, arguments_onto}
use Rattle.sj_desugar_forms.specs.Forms.{branches_onto}
use Rattle.sj_desugar_forms.specs.Views.{destination_view, target_view, code_view}
use Rattle.sj_desugar.proofs.trees.+trees.Given as goal
use Rattle.sj_trees.specs.View.{terms_view, cases_view}

abbrev pub invariant-block_of-loop-index : goal.invariant-block_of-loop-index
invariant-block_of-loop-index l = joined (code_view l.written) (block (is_among l.locals.mutable.now) (is_among l.locals.sure.now) (map target_view l.targets) (destination_view l.destination) l.written.next (terms_view (drop l.index l.trees))) ≡ block (is_among l.locals.mutable.now) (is_among l.locals.sure.now) (map target_view l.targets) (destination_view l.destination) l.next (terms_view l.trees)

abbrev pub invariant-arguments_of-loop-index : goal.invariant-arguments_of-loop-index
invariant-arguments_of-loop-index l = arguments_onto (code_view l.written) (map expression_view l.expressions.items) (with_arguments l.left (types_of (terms_view (drop l.index l.trees))) (spill (operands (is_among l.locals.mutable.now) (is_among l.locals.sure.now) (map target_view l.targets) (terms_view (drop l.index l.trees))) l.written.next)) ≡ with_arguments l.params (types_of (terms_view l.trees)) (spill (operands (is_among l.locals.mutable.now) (is_among l.locals.sure.now) (map target_view l.targets) (terms_view l.trees)) l.next)

abbrev pub invariant-items_of-loop-index : goal.invariant-items_of-loop-index
invariant-items_of-loop-index l = arguments_onto (code_view l.written) (map expression_view l.expressions.items) (with_items l.expected (types_of (terms_view (drop l.index l.trees))) (spill (operands (is_among l.locals.mutable.now) (is_among l.locals.sure.now) (map target_view l.targets) (terms_view (drop l.index l.trees))) l.written.next)) ≡ with_items l.expected (types_of (terms_view l.trees)) (spill (operands (is_among l.locals.mutable.now) (is_among l.locals.sure.now) (map target_view l.targets) (terms_view l.trees)) l.next)

abbrev pub invariant-cases_of-loop-each : goal.invariant-cases_of-loop-each
invariant-cases_of-loop-each l = branches_onto (map case_view l.switched.items) (cases (is_among l.locals.mutable.now) (is_among l.locals.sure.now) (map target_view l.targets) (destination_view l.destination) l.number (cases_view (drop l.each-index l.cases))) ≡ cases (is_among l.locals.mutable.now) (is_among l.locals.sure.now) (map target_view l.targets) (destination_view l.destination) l.next (cases_view l.cases)

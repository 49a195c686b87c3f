use Rattle.std.proofs.Common.{take}
use Rattle.std.specs.Prelude.{All}
use Rattle.sj_core.specs.Views.{expression_view}
use Rattle.sj_emit_expr_pieces.specs.Ranges.{FitsExpression}
use Rattle.method_ranges.proofs.ranges.+expression_ranges.Given as goal

abbrev pub invariant-expressions_fit-loop-each : goal.invariant-expressions_fit-loop-each
invariant-expressions_fit-loop-each l = All (λ e. FitsExpression (expression_view e)) (take l.each-index l.expressions)

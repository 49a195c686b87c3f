use Rattle.sj_core.specs.Views.{expression_view}
use Rattle.sj_emit_expr_pieces.specs.Ranges.{FitsExpression}
use Rattle.sj_emit_expr_pieces.proofs.Lists.{each-more, each-whole}
use Rattle.method_ranges.proofs.Each.{each-expression}
use Rattle.method_ranges.proofs.ranges.+expression_ranges.Goals as goal

pub expressions_fit-loop-each-preserved : goal.expressions_fit-loop-each-preserved
expressions_fit-loop-each-preserved t c = each-more (λ e. FitsExpression (expression_view e)) c.args.expressions.now c.loop-each.each-index c.each-item.result c.loop-each-test.true c.each-item.is c.loop-each.invariant c.expression_fits.ensures

pub expressions_fit-returns : goal.expressions_fit-returns
expressions_fit-returns t c = each-expression c.args.expressions.now (each-whole (λ e. FitsExpression (expression_view e)) c.args.expressions.now c.loop-each.each-index c.loop-each-test.false c.loop-each.invariant)

use Rattle.std.proofs.Common.{subst}
use Rattle.sj_emit_expr_pieces.proofs.Lists.{each-more, each-whole}
use Rattle.sj_emit_expr_pieces.specs.Ranges.{AreBytes}
use Rattle.method_ranges.proofs.ranges.params_fit.Goals as goal

pub loop-param-preserved : goal.loop-param-preserved
loop-param-preserved c = each-more AreBytes c.args.params.now c.loop-param.param-index c.param-item.result c.loop-param-test.true c.param-item.is c.loop-param.invariant (subst AreBytes c.text.ensures.text c.text_fits.ensures)

pub returns : goal.returns
returns c = each-whole AreBytes c.args.params.now c.loop-param.param-index c.loop-param-test.false c.loop-param.invariant

use Rattle.sj_emit_expr_pieces.specs.Ranges.{AreBytes}
use Rattle.sj_emit_expr_pieces.proofs.Lists.{each-more, each-whole}
use Rattle.sj_emit_class_printing.proofs.ranges.names_fit.Goals as goal

pub loop-name-preserved : goal.loop-name-preserved
loop-name-preserved c = each-more AreBytes c.args.names.now c.loop-name.name-index c.name-item.result c.loop-name-test.true c.name-item.is c.loop-name.invariant c.name_fits.ensures

pub returns : goal.returns
returns c = each-whole AreBytes c.args.names.now c.loop-name.name-index c.loop-name-test.false c.loop-name.invariant

use Rattle.sj_emit_expr_pieces.specs.Ranges.{FitsReference}
use Rattle.sj_emit_expr_pieces.proofs.Lists.{each-more, each-whole}
use Rattle.sj_emit_expr_pieces.proofs.ranges.references_fit.Goals as goal

pub loop-reference-preserved : goal.loop-reference-preserved
loop-reference-preserved c = each-more FitsReference c.args.references.now c.loop-reference.reference-index c.reference-item.result c.loop-reference-test.true c.reference-item.is c.loop-reference.invariant c.reference_fits.ensures

pub returns : goal.returns
returns c = each-whole FitsReference c.args.references.now c.loop-reference.reference-index c.loop-reference-test.false c.loop-reference.invariant

use Rattle.std.proofs.lemmas.List.Elements.{All-map}
use Rattle.sj_emit_class_printing.specs.Fits.{FitsField}
use Rattle.sj_emit_expr_pieces.proofs.Lists.{each-whole}
use Rattle.sj_emit_class.proofs.ranges.fields_fit.Goals as goal

pub returns : goal.returns
returns c = All-map FitsField (λ x. x.now) c.args.fields.now (each-whole (λ x. FitsField x.now) c.args.fields.now c.loop-field.field-index c.loop-field-test.false c.loop-field.invariant)

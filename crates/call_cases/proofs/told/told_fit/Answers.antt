use Rattle.std.proofs.lemmas.List.Elements.{All-map}
use Rattle.sj_emit_class_printing.specs.Fits.{FitTold}
use Rattle.sj_emit_class_parts.specs.Cases.{told_view}
use Rattle.sj_emit_expr_pieces.proofs.Lists.{each-more, each-whole}
use Rattle.call_cases.proofs.told.told_fit.Goals as goal

pub loop-told-preserved : goal.loop-told-preserved
loop-told-preserved c = each-more (λ x. FitTold (told_view x)) c.args.cases.now c.loop-told.told-index c.told-item.result c.loop-told-test.true c.told-item.is c.loop-told.invariant c.name_fits.ensures

pub returns : goal.returns
returns c = All-map FitTold told_view c.args.cases.now (each-whole (λ x. FitTold (told_view x)) c.args.cases.now c.loop-told.told-index c.loop-told-test.false c.loop-told.invariant)

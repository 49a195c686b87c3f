use Rattle.std.proofs.lemmas.List.Elements.{All-map}
use Rattle.sj_emit_class_printing.specs.Fits.{FitReflected}
use Rattle.sj_emit_class_parts.specs.Cases.{reflected_view}
use Rattle.sj_emit_expr_pieces.proofs.Lists.{each-more, each-whole}
use Rattle.call_cases.proofs.reflected.reflected_fit.Goals as goal

pub loop-reflected-preserved : goal.loop-reflected-preserved
loop-reflected-preserved c = each-more (λ x. FitReflected (reflected_view x)) c.args.cases.now c.loop-reflected.reflected-index c.reflected-item.result c.loop-reflected-test.true c.reflected-item.is c.loop-reflected.invariant c.one_fits.ensures

pub returns : goal.returns
returns c = All-map FitReflected reflected_view c.args.cases.now (each-whole (λ x. FitReflected (reflected_view x)) c.args.cases.now c.loop-reflected.reflected-index c.loop-reflected-test.false c.loop-reflected.invariant)

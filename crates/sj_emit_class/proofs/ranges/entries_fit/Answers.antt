use Rattle.std.proofs.lemmas.List.Elements.{All-map}
use Rattle.sj_emit_class_printing.specs.Fits.{FitsEntry}
use Rattle.sj_emit_expr_pieces.proofs.Lists.{each-more, each-whole}
use Rattle.sj_emit_class.proofs.ranges.entries_fit.Goals as goal

pub loop-entry-preserved : goal.loop-entry-preserved
loop-entry-preserved c = each-more (λ x. FitsEntry x.now) c.args.entries.now c.loop-entry.entry-index c.entry-item.result c.loop-entry-test.true c.entry-item.is c.loop-entry.invariant c.entry_fits.ensures

pub returns : goal.returns
returns c = All-map FitsEntry (λ x. x.now) c.args.entries.now (each-whole (λ x. FitsEntry x.now) c.args.entries.now c.loop-entry.entry-index c.loop-entry-test.false c.loop-entry.invariant)

use Rattle.std.proofs.Common.{get_or, arith}
use Rattle.std.proofs.lemmas.Option.{slice_get-get_or}
use Rattle.number_graphs.proofs.Places.{within}
use Rattle.sj_split.proofs.Least.{lowering_more, lowering_ends}
use Rattle.sj_split.proofs.components.least_classes.Goals as goal

pub lower-requires-clause-least : goal.lower-requires-clause-least
lower-requires-clause-least c place one at = let low = within c.args.of.now one place (c.loop-number.invariant.firsts.within place one at) in omega (arith, low, c.requires.whole)

pub loop-number-preserved : goal.loop-number-preserved
loop-number-preserved c = lowering_more c.args.numbers.now.classes.keys c.args.of.now c.loop-number.number (get_or c.args.of.now c.loop-number.number 0) c.loop-number.least.items c.lower.new.least.items c.loop-number.invariant (slice_get-get_or c.args.of.now c.loop-number.number 0 (omega arith)) c.lower.ensures

pub returns : goal.returns
returns c = lowering_ends c.args.numbers.now.classes.keys c.args.of.now c.loop-number.number c.loop-number.least.items c.loop-number.invariant (omega arith)

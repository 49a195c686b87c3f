use Rattle.std.proofs.Common.{arith}
use Rattle.number_graphs.specs.declared.paths.Found.TheVariants.{Not}
use Rattle.number_graphs.proofs.Places.{within}
use Rattle.number_graphs.proofs.finding.find_components.Goals as goal

pub into_components-requires-clause-known : goal.into_components-requires-clause-known
into_components-requires-clause-known c number at = c.loop-number.invariant.known number (let low = within c.loop-number.search.found.items number Not at in let e = c.loop-number.invariant.right.whole in omega (arith, low, e)) at

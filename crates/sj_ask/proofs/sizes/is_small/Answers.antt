use Rattle.std.proofs.Common.{◌≡◌, ◌+◌, ◌∙◌, arith}
use Rattle.std.proofs.lemmas.Bool.Decides.{nat_tests}
use Rattle.sj_trees.specs.View.{view}
use Rattle.sj_ask.specs.Sizes.{size, in_32_bits}
use Rattle.sj_ask.proofs.Counts.{counted_is}
use Rattle.sj_ask.proofs.sizes.is_small.Goals as goal

pub returns : goal.returns
returns c = let h : c.count.result ≡ in_32_bits (0 + size (view c.args.tree.now)) = c.count.ensures ∙ counted_is (view c.args.tree.now) 0 in grind (arith, nat_tests)

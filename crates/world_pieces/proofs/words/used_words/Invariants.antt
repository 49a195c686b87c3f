use Rattle.std.proofs.Common.{[]}
use Rattle.sj_baselink.specs.Steps.{Puts, OfOne}
use Rattle.sj_baselink.proofs.Putting.{OfFirst}
use Rattle.world_pieces.specs.Blocks.{pieces_in}
use Rattle.world_pieces.specs.Helpers.{UsesWord}
use Rattle.world_pieces.proofs.words.used_words.Given as goal

abbrev pub invariant-loop-block : goal.invariant-loop-block
invariant-loop-block l = Puts (OfFirst l.blocks l.block-index (λ b x. OfOne (pieces_in b) UsesWord x)) [] l.words.keys

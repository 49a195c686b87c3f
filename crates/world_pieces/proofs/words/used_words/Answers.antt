use Rattle.std.proofs.Common.{Contains, refl, arith}
use Rattle.std.proofs.lemmas.Option.{slice_get_read}
use Rattle.sj_baselink.specs.Steps.{OfOne}
use Rattle.sj_baselink.proofs.Putting.{begins_empty, each_goes_on}
use Rattle.world_pieces.specs.Blocks.{pieces_in}
use Rattle.world_pieces.specs.Helpers.{UsesWord}
use Rattle.world_pieces.proofs.UsedWords.{words_of_blocks}
use Rattle.world_pieces.proofs.words.used_words.Goals as goal

pub loop-block-init : goal.loop-block-init
loop-block-init c = begins_empty _ _ _ c.new-words.ensures.empty

pub loop-block-preserved : goal.loop-block-preserved
loop-block-preserved c = each_goes_on Contains (λ b x. OfOne (pieces_in b) UsesWord x) c.args.blocks.now c.loop-block.block-index c.block-item.result _ _ _ (slice_get_read c.args.blocks.now _ c.loop-block.block-index c.block-item.result refl (omega arith) c.block-item.is) c.loop-block.invariant c.in_ok-put_words_of.ensures

pub returns : goal.returns
returns c = words_of_blocks c.args.blocks.now c.loop-block.block-index _ (omega arith) c.loop-block.invariant

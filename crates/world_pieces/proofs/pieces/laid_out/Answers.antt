use Rattle.std.proofs.Common.{map}
use Rattle.js_tree.specs.Views.{piece_view}
use Rattle.world_pieces.specs.Blocks.{pieces_in, with_helpers_in}
use Rattle.world_pieces.proofs.Kept.{keeps_before, keeps_there, one_block}
use Rattle.world_pieces.proofs.pieces.laid_out.Goals as goal

pub loop-block-preserved : goal.loop-block-preserved
loop-block-preserved c = record {
  pieces = one_block (with_helpers_in (map piece_view c.args.behind.now)) c.loop-block.yielded c.in-Some.block c.loop-block.pieces.items _ c.loop-block.invariant.pieces c.in_ok-put_block.ensures.pieces;
  rules = λ all. c.in_ok-put_block.ensures.rules c.requires.behind (keeps_there pieces_in c.loop-block.yielded c.in-Some.block all) (c.loop-block.invariant.rules (keeps_before pieces_in c.loop-block.yielded c.in-Some.block all));
}

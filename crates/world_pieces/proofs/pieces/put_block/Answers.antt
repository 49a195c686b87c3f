use Rattle.std.proofs.Common.{map}
use Rattle.js_tree.specs.Views.{piece_view}
use Rattle.world_pieces.specs.Blocks.{pieces_in}
use Rattle.world_pieces.proofs.Kept.{put_keeps}
use Rattle.world_pieces.proofs.pieces.put_block.Goals as goal

pub returns-in_ok-put_copies-clause-rules : goal.returns-in_ok-put_copies-clause-rules
returns-in_ok-put_copies-clause-rules c behind own before = put_keeps c.put_pieces.new.pieces.items _ (map piece_view c.args.behind.now) c.in_ok-put_copies.ensures behind (put_keeps c.args.pieces.now.items c.put_pieces.new.pieces.items (pieces_in c.args.block) c.in_ok-put_pieces.ensures own before)

pub returns-else-is_object-clause-rules : goal.returns-else-is_object-clause-rules
returns-else-is_object-clause-rules c behind own before = put_keeps c.args.pieces.now.items c.put_pieces.new.pieces.items (pieces_in c.args.block) c.in_ok-put_pieces.ensures own before

use Rattle.std.proofs.Common.{◌≡◌, map}
use Rattle.std.specs.List.{flat_map}
use Rattle.std.specs.Prelude.{All}
use Rattle.js_tree.specs.Rules.{IsPiece}
use Rattle.js_tree.specs.Views.{piece_view}
use Rattle.world_pieces.specs.Blocks.{pieces_in, with_helpers_in}
use Rattle.world_pieces.proofs.pieces.laid_out.Given as goal

abbrev pub invariant-loop-block : goal.invariant-loop-block
invariant-loop-block l = record {
  pieces : map piece_view l.pieces.items ≡ flat_map (with_helpers_in (map piece_view l.behind)) l.yielded;
  rules : All IsPiece (flat_map pieces_in l.yielded) → All IsPiece (map piece_view l.pieces.items);
}

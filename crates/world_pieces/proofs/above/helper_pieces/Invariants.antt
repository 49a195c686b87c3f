use Rattle.std.proofs.Common.{◌≡◌, take, map}
use Rattle.std.specs.Prelude.{All}
use Rattle.sj_emit_help_spec.specs.Helpers.{helper_piece}
use Rattle.js_tree.specs.Rules.{IsPiece}
use Rattle.js_tree.specs.Views.{piece_view}
use Rattle.world_pieces.specs.Above.{above_of}
use Rattle.world_pieces.proofs.above.helper_pieces.Given as goal

abbrev pub invariant-loop-helper : goal.invariant-loop-helper
invariant-loop-helper l = record {
  pieces : map piece_view l.pieces.items ≡ map (helper_piece (above_of l.above)) (take l.helper-index l.helpers);
  rules : All IsPiece (map piece_view l.pieces.items);
}

use Rattle.std.proofs.Common.{◌≡◌, ◌++◌, take, map}
use Rattle.js_tree.specs.Views.{piece_view}
use Rattle.world_pieces.proofs.behind.put_copies.Given as goal

abbrev pub invariant-loop-piece : goal.invariant-loop-piece
invariant-loop-piece l = map piece_view l.pieces.items ≡ map piece_view l.fn.pieces.items ++ take l.piece-index (map piece_view l.those)

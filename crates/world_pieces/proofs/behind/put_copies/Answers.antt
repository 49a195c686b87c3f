use Rattle.std.proofs.Common.{◌∙◌, ◌++◌, List, ap, append-nil, arith, map, refl, sym}
use Rattle.std.specs.Prelude.{option_map}
use Rattle.std.proofs.lemmas.Option.{slice_get-map, slice_get_read}
use Rattle.js_tree.specs.Terms.{Piece}
use Rattle.js_tree.specs.Views.{piece_view}
use Rattle.world_pieces.proofs.Kept.{one_copy, whole}
use Rattle.world_pieces.proofs.behind.put_copies.Goals as goal

pub loop-piece-init : goal.loop-piece-init
loop-piece-init c = sym (append-nil (map piece_view c.args.pieces.now.items))

pub loop-piece-preserved : goal.loop-piece-preserved
loop-piece-preserved c = one_copy c.args.pieces.now.items c.args.those.now c.loop-piece.piece-index c.piece-item.result c.loop-piece.pieces.items _ c.in_ok-copied.field-0 (slice_get_read c.args.those.now _ c.loop-piece.piece-index c.piece-item.result refl (omega arith) c.piece-item.is) c.in_ok-copied.ensures c.in_ok-push.ensures.items c.loop-piece.invariant

pub returns : goal.returns
returns c = c.loop-piece.invariant ∙ ap (λ (ps : List Piece). map piece_view c.args.pieces.now.items ++ ps) (whole piece_view c.args.those.now c.loop-piece.piece-index c.loop-piece-test.false)

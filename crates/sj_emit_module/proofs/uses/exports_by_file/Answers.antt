use Rattle.std.proofs.Common.{[], arith, List, map, refl, take}
use Rattle.std.specs.List.{flat_map}
use Rattle.std.proofs.lemmas.Option.{slice_get_read}
use Rattle.js_tree.specs.Views.{piece_view}
use Rattle.js_tree.specs.declared.items.JsPiece.{JsPiece}
use Rattle.sj_emit_module.specs.Files.{file_in}
use Rattle.sj_emit_module.specs.Shares.{crossing}
use Rattle.sj_emit_module.proofs.Added.{held_more, crossing_join}
use Rattle.sj_emit_module.proofs.Held.{holds_none}
use Rattle.sj_emit_module.proofs.uses.exports_by_file.Goals as goal

pub loop-piece-init : goal.loop-piece-init
loop-piece-init c = holds_none (file_in c.args.files.now) _ c.new-groups.ensures.files c.new-groups.ensures.names

pub loop-piece-preserved : goal.loop-piece-preserved
loop-piece-preserved c = held_more (λ (ps : List JsPiece). flat_map (crossing (file_in c.args.files.now)) (map piece_view ps)) (crossing_join (file_in c.args.files.now)) c.args.pieces.now c.loop-piece.piece-index c.piece-item.result (slice_get_read c.args.pieces.now _ c.loop-piece.piece-index c.piece-item.result refl (omega arith) c.piece-item.is) (file_in c.args.files.now) [] _ (c.in_ok-put_exports.ensures (flat_map (crossing (file_in c.args.files.now)) (map piece_view (take c.loop-piece.piece-index c.args.pieces.now))) c.loop-piece.invariant)

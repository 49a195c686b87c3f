use Rattle.std.proofs.Common.{ap, arith, filter, List, map, refl}
use Rattle.std.proofs.lemmas.Option.{slice_get_read}
use Rattle.js_tree.specs.Views.{item_view, piece_view}
use Rattle.js_tree.specs.declared.items.JsPiece.{JsPiece}
use Rattle.sj_emit_module_spec.specs.Modules.{is_owned_in, item_of}
use Rattle.sj_emit_module.specs.Files.{file_in}
use Rattle.sj_emit_module.proofs.Added.{pushed_more, items_join}
use Rattle.sj_emit_module.proofs.items.items_by_file.Goals as goal

pub loop-piece-init : goal.loop-piece-init
loop-piece-init c f = ap (map (λ i. item_view i.value)) (c.new-lists.ensures f)

pub loop-piece-preserved : goal.loop-piece-preserved
loop-piece-preserved c f = pushed_more (λ (ps : List JsPiece). map item_of (filter (is_owned_in (file_in c.args.files.now) f) (map piece_view ps))) (items_join (file_in c.args.files.now) f) c.args.pieces.now c.loop-piece.piece-index c.piece-item.result (slice_get_read c.args.pieces.now _ c.loop-piece.piece-index c.piece-item.result refl (omega arith) c.piece-item.is) _ _ (c.loop-piece.invariant f) (c.in_ok-put_item.ensures f)

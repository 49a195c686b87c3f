use Rattle.std.proofs.Common.{arith, filter, List, map, refl}
use Rattle.std.specs.List.{flat_map}
use Rattle.std.proofs.lemmas.Option.{slice_get_read}
use Rattle.js_tree.specs.Views.{piece_view}
use Rattle.js_tree.specs.declared.items.JsPiece.{JsPiece}
use Rattle.sj_emit_module_spec.specs.Modules.{is_owned_in, uses_of}
use Rattle.sj_emit_module.specs.Files.{file_in}
use Rattle.sj_emit_module.proofs.Added.{pushed_more, uses_join}
use Rattle.sj_emit_module.proofs.uses.uses_by_file.Goals as goal

pub loop-piece-preserved : goal.loop-piece-preserved
loop-piece-preserved c f = pushed_more (λ (ps : List JsPiece). flat_map uses_of (filter (is_owned_in (file_in c.args.files.now) f) (map piece_view ps))) (uses_join (file_in c.args.files.now) f) c.args.pieces.now c.loop-piece.piece-index c.piece-item.result (slice_get_read c.args.pieces.now _ c.loop-piece.piece-index c.piece-item.result refl (omega arith) c.piece-item.is) _ _ (c.loop-piece.invariant f) (c.in_ok-put_uses.ensures f)

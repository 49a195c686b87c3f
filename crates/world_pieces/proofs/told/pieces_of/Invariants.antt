use Rattle.std.proofs.Common.{take, map}
use Rattle.std.specs.Prelude.{All}
use Rattle.js_tree.specs.Rules.{IsPiece}
use Rattle.js_tree.specs.Views.{piece_view}
use Rattle.sj_emit_class_spec.specs.Dispatch.{IsDispatchPiece}
use Rattle.sj_mangling.specs.declared.bindings.MethodBinding.TheVariants.{Dispatch}
use Rattle.world_pieces.specs.Told.{AreTheirs}
use Rattle.world_pieces.proofs.told.pieces_of.Given as goal

abbrev pub invariant-loop-method : goal.invariant-loop-method
invariant-loop-method l = record {
  pieces : AreTheirs Dispatch (IsDispatchPiece l.linked.world l.linked.facts) (take l.method-index l.methods) (map piece_view l.pieces.items);
  rules : All IsPiece (map piece_view l.pieces.items);
}

use Rattle.std.proofs.Common.{take, map}
use Rattle.std.specs.Prelude.{All}
use Rattle.js_tree.specs.Rules.{IsPiece}
use Rattle.js_tree.specs.Views.{piece_view}
use Rattle.sj_emit_class_spec.specs.Dispatch.{IsReflectivePiece}
use Rattle.sj_mangling.specs.declared.bindings.MethodBinding.TheVariants.{Reflective}
use Rattle.world_pieces.specs.Told.{AreTheirs}
use Rattle.world_pieces.proofs.reflected.pieces_of.Given as goal

abbrev pub invariant-loop-name : goal.invariant-loop-name
invariant-loop-name l = record {
  pieces : AreTheirs Reflective (IsReflectivePiece l.linked.world l.linked.facts) (take l.name-index l.names) (map piece_view l.pieces.items);
  rules : All IsPiece (map piece_view l.pieces.items);
}

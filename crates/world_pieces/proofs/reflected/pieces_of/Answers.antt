use Rattle.std.proofs.Common.{List, arith, map, refl, subst, sym}
use Rattle.std.specs.Prelude.{All}
use Rattle.std.proofs.lemmas.List.{take_all}
use Rattle.std.proofs.lemmas.List.Elements.{All-nil}
use Rattle.std.proofs.lemmas.Option.{slice_get_read}
use Rattle.js_tree.specs.Rules.{IsPiece}
use Rattle.js_tree.specs.Views.{piece_view}
use Rattle.js_tree.specs.declared.items.JsPiece.{JsPiece}
use Rattle.sj_emit_class_spec.specs.Dispatch.{IsReflectivePiece}
use Rattle.sj_mangling.specs.declared.bindings.MethodBinding.TheVariants.{Reflective}
use Rattle.sj_names.specs.declared.method_names.MethodName.{MethodName}
use Rattle.world_pieces.specs.Told.{AreTheirs}
use Rattle.world_pieces.proofs.Kept.{one_keeps}
use Rattle.world_pieces.proofs.ToldPieces.{reflective_named, none_theirs, one_theirs}
use Rattle.world_pieces.proofs.reflected.pieces_of.Goals as goal

pub loop-name-init : goal.loop-name-init
loop-name-init c = record {
  pieces = none_theirs Reflective (IsReflectivePiece c.args.linked.now.world c.args.linked.now.facts) c.args.names.now _ c.new-pieces.ensures.items;
  rules = subst (λ (ps : List JsPiece). All IsPiece (map piece_view ps)) (sym c.new-pieces.ensures.items) (All-nil IsPiece);
}

pub loop-name-preserved : goal.loop-name-preserved
loop-name-preserved c = record {
  pieces = one_theirs Reflective (IsReflectivePiece c.args.linked.now.world c.args.linked.now.facts) (reflective_named c.args.linked.now) c.args.names.now c.loop-name.name-index c.name-item.result c.loop-name.pieces.items _ c.in_ok-reflective_of.field-0 (slice_get_read c.args.names.now _ c.loop-name.name-index c.name-item.result refl (omega arith) c.name-item.is) c.in_ok-reflective_of.ensures.piece c.in_ok-push.ensures.items c.loop-name.invariant.pieces;
  rules = one_keeps c.loop-name.pieces.items _ c.in_ok-reflective_of.field-0 c.in_ok-push.ensures.items c.in_ok-reflective_of.ensures.rules c.loop-name.invariant.rules;
}

pub returns-clause-pieces : goal.returns-clause-pieces
returns-clause-pieces c = subst (λ (ms : List MethodName). AreTheirs Reflective (IsReflectivePiece c.args.linked.now.world c.args.linked.now.facts) ms (map piece_view c.loop-name.pieces.items)) (take_all c.loop-name.name-index c.args.names.now (omega arith)) c.loop-name.invariant.pieces

use Rattle.std.proofs.Common.{List, arith, map, refl, subst, sym}
use Rattle.std.specs.Prelude.{All}
use Rattle.std.proofs.lemmas.List.{take_all}
use Rattle.std.proofs.lemmas.List.Elements.{All-nil}
use Rattle.std.proofs.lemmas.Option.{slice_get_read}
use Rattle.js_tree.specs.Rules.{IsPiece}
use Rattle.js_tree.specs.Views.{piece_view}
use Rattle.js_tree.specs.declared.items.JsPiece.{JsPiece}
use Rattle.sj_emit_class_spec.specs.Dispatch.{IsDispatchPiece}
use Rattle.sj_mangling.specs.declared.bindings.MethodBinding.TheVariants.{Dispatch}
use Rattle.sj_names.specs.declared.method_names.MethodName.{MethodName}
use Rattle.world_pieces.specs.Told.{AreTheirs}
use Rattle.world_pieces.proofs.Kept.{one_keeps}
use Rattle.world_pieces.proofs.ToldPieces.{dispatch_named, none_theirs, one_theirs}
use Rattle.world_pieces.proofs.told.pieces_of.Goals as goal

pub loop-method-init : goal.loop-method-init
loop-method-init c = record {
  pieces = none_theirs Dispatch (IsDispatchPiece c.args.linked.now.world c.args.linked.now.facts) c.args.methods.now _ c.new-pieces.ensures.items;
  rules = subst (λ (ps : List JsPiece). All IsPiece (map piece_view ps)) (sym c.new-pieces.ensures.items) (All-nil IsPiece);
}

pub loop-method-preserved : goal.loop-method-preserved
loop-method-preserved c = record {
  pieces = one_theirs Dispatch (IsDispatchPiece c.args.linked.now.world c.args.linked.now.facts) (dispatch_named c.args.linked.now) c.args.methods.now c.loop-method.method-index c.method-item.result c.loop-method.pieces.items _ c.in_ok-dispatch_of.field-0 (slice_get_read c.args.methods.now _ c.loop-method.method-index c.method-item.result refl (omega arith) c.method-item.is) c.in_ok-dispatch_of.ensures.piece c.in_ok-push.ensures.items c.loop-method.invariant.pieces;
  rules = one_keeps c.loop-method.pieces.items _ c.in_ok-dispatch_of.field-0 c.in_ok-push.ensures.items c.in_ok-dispatch_of.ensures.rules c.loop-method.invariant.rules;
}

pub returns-clause-pieces : goal.returns-clause-pieces
returns-clause-pieces c = subst (λ (ms : List MethodName). AreTheirs Dispatch (IsDispatchPiece c.args.linked.now.world c.args.linked.now.facts) ms (map piece_view c.loop-method.pieces.items)) (take_all c.loop-method.method-index c.args.methods.now (omega arith)) c.loop-method.invariant.pieces

use Rattle.std.proofs.Common.{List, map, subst}
use Rattle.js_tree.specs.Views.{piece_view}
use Rattle.sj_emit_class_spec.specs.Dispatch.{IsReflectivePiece}
use Rattle.sj_mangling.specs.declared.bindings.MethodBinding.TheVariants.{Reflective}
use Rattle.sj_names.specs.declared.method_names.MethodName.{MethodName}
use Rattle.world_pieces.specs.Told.{AreTheirs}
use Rattle.world_pieces.proofs.ToldPieces.{are_reflective_pieces, sorted_keep}
use Rattle.world_pieces.proofs.reflected.reflective_pieces.Goals as goal

pub returns-clause-pieces : goal.returns-clause-pieces
returns-clause-pieces c ps are =
    let l = c.args.linked.now in
    let theirs = subst (λ (ns : List MethodName). AreTheirs Reflective (IsReflectivePiece l.world l.facts) ns (map piece_view c.in_ok-pieces.pieces.items)) c.deref.ensures.value c.in_ok-pieces.ensures.pieces in
    are_reflective_pieces c.in_ok-pieces.pieces.items c.in_order.result.items c.in_order.ensures l ps c.args.words.now.keys c.in_ok-names.names.items are c.in_ok-names.ensures.once c.in_ok-names.ensures.exact theirs

pub returns-clause-rules : goal.returns-clause-rules
returns-clause-rules c = sorted_keep c.in_ok-pieces.pieces.items c.in_order.result.items c.in_order.ensures c.in_ok-pieces.ensures.rules

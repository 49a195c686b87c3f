use Rattle.std.proofs.Common.{List, Contains, map, subst, sym}
use Rattle.std.specs.Prelude.{◌↔◌}
use Rattle.js_tree.specs.Views.{piece_view}
use Rattle.sj_emit_class_spec.specs.Dispatch.{IsDispatchPiece}
use Rattle.sj_baselink.specs.Steps.{OfOne}
use Rattle.sj_mangling.specs.declared.bindings.MethodBinding.TheVariants.{Dispatch}
use Rattle.sj_names.specs.declared.method_names.MethodName.{MethodName}
use Rattle.sj_world.specs.declared.facts.Fact.{Fact}
use Rattle.world_pieces.specs.Told.{IsUsedBy, AreTheirs}
use Rattle.world_pieces.proofs.ToldPieces.{are_dispatch_pieces, sorted_keep}
use Rattle.world_pieces.proofs.told.dispatch_pieces.Goals as goal

pub returns-clause-pieces : goal.returns-clause-pieces
returns-clause-pieces c ps are =
    let words = c.args.words.now.keys in
    let ms = c.in_ok-methods.methods.items in
    let called = subst (λ (fs : List Fact). (m : MethodName) → Contains c.in_ok-called.called.keys m ↔ OfOne fs (IsUsedBy words) m) c.facts.ensures c.in_ok-called.ensures in
    let exact = subst (λ (ns : List MethodName). (m : MethodName) → Contains ns m ↔ OfOne c.args.linked.now.facts (IsUsedBy words) m) (sym c.in_ok-methods.ensures.all) called in
    let theirs = subst (λ (ns : List MethodName). AreTheirs Dispatch (IsDispatchPiece c.args.linked.now.world c.args.linked.now.facts) ns (map piece_view c.in_ok-pieces.pieces.items)) c.deref.ensures.value c.in_ok-pieces.ensures.pieces in
    are_dispatch_pieces c.in_ok-pieces.pieces.items c.in_order.result.items c.in_order.ensures c.args.linked.now ps words ms are c.in_ok-methods.ensures.once exact theirs

pub returns-clause-rules : goal.returns-clause-rules
returns-clause-rules c = sorted_keep c.in_ok-pieces.pieces.items c.in_order.result.items c.in_order.ensures c.in_ok-pieces.ensures.rules

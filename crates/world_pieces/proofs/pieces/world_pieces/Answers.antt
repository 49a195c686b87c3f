use Rattle.std.proofs.Common.{◌≡◌, List, map, subst, sym}
use Rattle.std.specs.List.{flat_map}
use Rattle.std.specs.Prelude.{All}
use Rattle.std.proofs.lemmas.Result.{IfOk-weaker}
use Rattle.js_tree.specs.Rules.{IsPiece}
use Rattle.js_tree.specs.Views.{piece_view}
use Rattle.js_tree.specs.declared.items.JsPiece.{JsPiece}
use Rattle.linked_pieces.specs.Order.{AreClasses}
use Rattle.sj_world.specs.Known.{Classes}
use Rattle.world_pieces.specs.Blocks.{AreMade, pieces_in, with_helpers_in}
use Rattle.world_pieces.specs.Places.{name_of}
use Rattle.world_pieces.specs.Told.{AreBehind}
use Rattle.world_pieces.specs.declared.blocks.Block.{Block}
use Rattle.world_pieces.specs.declared.classes.ClassPlace.{ClassPlace}
use Rattle.world_pieces.proofs.Linked.{are_linked_pieces}
use Rattle.world_pieces.proofs.Made.{blocks_keep}
use Rattle.world_pieces.proofs.pieces.world_pieces.Goals as goal

pub laid_out-requires-clause-blocks : goal.laid_out-requires-clause-blocks
laid_out-requires-clause-blocks c = blocks_keep c.args.linked.now c.args.functions.items _ _ c.requires c.in_ok-blocks.ensures

pub laid_out-requires-clause-behind : goal.laid_out-requires-clause-behind
laid_out-requires-clause-behind c = subst (λ (qs : List JsPiece). All IsPiece (map piece_view qs)) (sym c.deref-3.ensures.value) c.in_ok-behind.ensures.rules

pub returns-clause-pieces : goal.returns-clause-pieces
returns-clause-pieces c all given own tell =
    let l = c.args.linked.now in
    let functions = c.args.functions.items in
    let bs = c.in_ok-blocks.blocks.items in
    let names = map name_of c.in_ok-classes.classes.items in
    let behind = map piece_view c.in_ok-behind.behind.items in
    let classes = subst (λ (w : Classes). AreClasses w names) c.world.ensures c.in_ok-classes.ensures.classes in
    let made = subst (λ (cs : List ClassPlace). AreMade l functions (map name_of cs) bs) c.deref.ensures.value c.in_ok-blocks.ensures in
    let stands = subst (λ (ds : List Block). AreBehind l (flat_map pieces_in ds) behind) c.deref-2.ensures.value c.in_ok-behind.ensures.pieces in
    IfOk-weaker c.laid_out.result _ _ (λ ps is. are_linked_pieces l functions all given own tell names bs behind _ classes made stands (subst (λ (qs : List JsPiece). map piece_view ps.items ≡ flat_map (with_helpers_in (map piece_view qs)) bs) c.deref-3.ensures.value is)) c.laid_out.ensures.pieces

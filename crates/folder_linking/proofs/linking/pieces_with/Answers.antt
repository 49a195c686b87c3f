use Rattle.std.proofs.Common.{map}
use Rattle.js_tree.specs.Views.{piece_view}
use Rattle.folder_linking.proofs.Linked.{all, own, tell, pieces_of_bodies, bodies_keep, printable, both_known}
use Rattle.folder_linking.proofs.linking.pieces_with.Goals as goal

pub world_pieces-requires : goal.world_pieces-requires
world_pieces-requires c = bodies_keep c.args.entries.now c.args.linked.now c.requires.linkable c.args.functions.items c.requires.functions c.in_ok-pieces.pieces.items c.in_ok-pieces.ensures

pub returns : goal.returns
returns c =
    let entries = c.args.entries.now in
    let l = c.args.linked.now in
    let fs = c.args.functions.items in
    let are = c.requires.functions in
    both_known c.world_pieces.result _ _ _ (λ ps pieces rules. printable entries l c.requires.linkable fs are (map piece_view ps.items) pieces rules) (c.world_pieces.ensures.pieces (all entries l c.requires.linkable fs are) (pieces_of_bodies entries l c.requires.linkable fs are c.in_ok-pieces.pieces.items c.in_ok-pieces.ensures) (own entries l c.requires.linkable fs are) (tell entries l c.requires.linkable fs are)) c.world_pieces.ensures.rules

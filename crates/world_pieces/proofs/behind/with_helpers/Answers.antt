use Rattle.std.proofs.Common.{◌∙◌, ◌++◌, List, ap, map, subst}
use Rattle.sj_emit_help_spec.specs.Helpers.{helper_piece}
use Rattle.sj_emit_help_spec.specs.declared.kinds.Helper.{Helper}
use Rattle.js_tree.specs.Terms.{Piece}
use Rattle.js_tree.specs.Views.{piece_view}
use Rattle.world_pieces.specs.Above.{above_of}
use Rattle.world_pieces.proofs.Kept.{appended, put_keeps}
use Rattle.world_pieces.proofs.behind.with_helpers.Goals as goal

pub returns-clause-pieces : goal.returns-clause-pieces
returns-clause-pieces c ps are =
    let told = map piece_view c.args.told.items in
    record {
      helpers = c.in_ok-helpers.helpers.items;
      are_helpers = c.in_ok-helpers.ensures ps are;
      above = above_of c.in_ok-above.above;
      are_above = c.in_ok-above.ensures;
      are = appended c.in_ok-pieces.pieces.items c.args.told.items _ c.in_ok-append.ensures.items ∙ ap (λ (qs : List Piece). qs ++ told) (c.in_ok-pieces.ensures.pieces ∙ ap (λ (hs : List Helper). map (helper_piece (above_of c.in_ok-above.above)) hs) c.deref.ensures.value);
    }

pub returns-clause-rules : goal.returns-clause-rules
returns-clause-rules c own = put_keeps c.in_ok-pieces.pieces.items _ (map piece_view c.args.told.items) (appended c.in_ok-pieces.pieces.items c.args.told.items _ c.in_ok-append.ensures.items) own c.in_ok-pieces.ensures.rules

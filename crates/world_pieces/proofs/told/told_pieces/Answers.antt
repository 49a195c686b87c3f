use Rattle.std.proofs.Common.{map}
use Rattle.js_tree.specs.Views.{piece_view}
use Rattle.world_pieces.proofs.Kept.{appended, put_keeps}
use Rattle.world_pieces.proofs.told.told_pieces.Goals as goal

pub returns-clause-pieces : goal.returns-clause-pieces
returns-clause-pieces c ps are = record {
  methods = map piece_view c.in_ok-pieces.pieces.items;
  are_methods = c.in_ok-pieces.ensures.pieces ps are;
  names = map piece_view c.in_ok-reflective.reflective.items;
  are_names = c.in_ok-reflective.ensures.pieces ps are;
  told_are = appended c.in_ok-pieces.pieces.items c.in_ok-reflective.reflective.items _ c.in_ok-append.ensures.items;
}

pub returns-clause-rules : goal.returns-clause-rules
returns-clause-rules c = put_keeps c.in_ok-pieces.pieces.items _ (map piece_view c.in_ok-reflective.reflective.items) (appended c.in_ok-pieces.pieces.items c.in_ok-reflective.reflective.items _ c.in_ok-append.ensures.items) c.in_ok-reflective.ensures.rules c.in_ok-pieces.ensures.rules

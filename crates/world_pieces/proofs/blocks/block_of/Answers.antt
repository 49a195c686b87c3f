use Rattle.std.proofs.Common.{map, subst, sym}
use Rattle.js_tree.specs.Views.{piece_view}
use Rattle.sj_emit_class_spec.specs.Classes.{AreClassPieces}
use Rattle.sj_world.specs.Known.{Name}
use Rattle.world_pieces.proofs.blocks.block_of.Goals as goal

pub returns-clause-made : goal.returns-clause-made
returns-clause-made c = record {
  own = subst (λ (n : Name). AreClassPieces c.args.linked.now n (map piece_view c.in_ok-own.own.items)) (sym c.in_ok-copied.ensures) c.in_ok-own.ensures.pieces;
  rules = c.in_ok-own.ensures.rules;
  functions_are = c.in_order.ensures;
}

use Rattle.sj_emit_help_spec.specs.declared.kinds.Helper.{Helper}
use Rattle.sj_emit_help_spec.specs.declared.kinds.Kind.{Kind}
use Rattle.world_pieces.specs.Above.{above_of}
use Rattle.world_pieces.proofs.Kept.{one_helper, one_keeps}
use Rattle.world_pieces.proofs.above.helper_pieces.Goals as goal

pub loop-helper-preserved : goal.loop-helper-preserved
loop-helper-preserved c = record {
  pieces = one_helper (above_of c.args.above.now) c.args.helpers.now c.loop-helper.helper-index (Helper.TestOf Kind.Undefined) c.loop-helper.pieces.items _ c.in_ok-piece_of.field-0 c.loop-helper-test.true c.in_ok-piece_of.ensures.piece c.in_ok-push.ensures.items c.loop-helper.invariant.pieces;
  rules = one_keeps c.loop-helper.pieces.items _ c.in_ok-piece_of.field-0 c.in_ok-push.ensures.items c.in_ok-piece_of.ensures.rules c.loop-helper.invariant.rules;
}

use Rattle.std.proofs.Common.{Option, subst}
use Rattle.std.specs.Prelude.{IfSome}
use Rattle.js_tree.specs.Rules.{IsPiece}
use Rattle.js_tree.specs.Views.{piece_view}
use Rattle.js_tree.specs.declared.items.JsPiece.{JsPiece}
use Rattle.world_vectors.proofs.Kept.{more_kept}
use Rattle.world_vectors.proofs.functions.functions_of.Goals as goal
use Rattle.world_vectors.proofs.functions.functions_of.Goals.{in-Body+in_ok-function+in-Some+in_ok-push-in-Some, in_default}

pub loop-fact-preserved : goal.loop-fact-preserved
loop-fact-preserved c = elim c.match-fact.branch [
  | in-Body+in_ok-function+in-Some+in_ok-push-in-Some w ↦
      let rules : IsPiece (piece_view w.in-Some.function) = subst (λ (o : Option JsPiece). IfSome o (λ p. IsPiece (piece_view p))) w.in-Some.is w.in_ok-function.ensures in
      rw w.functions-is (more_kept c.loop-fact.functions.items _ w.in-Some.function w.in_ok-push-in-Some.ensures.items rules c.loop-fact.invariant)
  | in_default w ↦ rw w.functions-is c.loop-fact.invariant
]

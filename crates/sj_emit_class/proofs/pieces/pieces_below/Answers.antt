use Rattle.std.proofs.Common.{sym, subst}
use Rattle.std.specs.Prelude.{All}
use Rattle.js_tree.specs.Rules.{IsPiece}
use Rattle.std.proofs.lemmas.Result.{IfOk-weaker}
use Rattle.sj_emit_class_spec.specs.Classes as classes
use Rattle.sj_emit_class_parts.specs.Parts.{parts_view}
use Rattle.sj_emit_class.proofs.pieces.pieces_below.Goals as goal

pub returns-clause-pieces : goal.returns-clause-pieces
returns-clause-pieces c = IfOk-weaker c.pieces_of.result _ _ (λ ps made. classes.AreClassPieces.present (parts_view c.in_ok-parts.parts) c.in_ok-parts.ensures made) c.pieces_of.ensures

pub returns-clause-rules : goal.returns-clause-rules
returns-clause-rules c = IfOk-weaker c.pieces_of.result _ _ (λ ps made. subst (All IsPiece) (sym made) (c.pieces_of_classes_are_pieces.ensures.classes (parts_view c.in_ok-parts.parts) c.parts_fit.ensures)) c.pieces_of.ensures

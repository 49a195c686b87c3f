use Rattle.std.proofs.Common.{◌∙◌, List, map, sym, subst}
use Rattle.std.specs.Prelude.{All}
use Rattle.sj_emit_class_printing.specs.Fits.{FitTold}
use Rattle.js_tree.specs.Rules.{IsPiece}
use Rattle.std.proofs.lemmas.Result.{IfOk-weaker}
use Rattle.sj_emit_help_spec.specs.Words.{told_kinds}
use Rattle.sj_emit_class_spec.specs.Dispatch.{AreTold}
use Rattle.sj_emit_class_parts.specs.Cases.{told_view}
use Rattle.sj_emit_class_parts.specs.declared.dispatch.Told.{Told}
use Rattle.call_cases.proofs.told.dispatch_of.Goals as goal

pub returns-clause-piece : goal.returns-clause-piece
returns-clause-piece c =
    let told = subst (λ (ts : List Told). AreTold c.args.w.now.world c.args.w.now.facts c.args.method.now told_kinds (map told_view ts)) (sym c.deref-2.ensures.value) c.in_ok-cases.ensures in
    IfOk-weaker c.dispatch_piece.result _ _ (λ p made. record { cases = map told_view c.deref-2.result.now; are_told = told; piece_is = made }) c.dispatch_piece.ensures.is_seen

pub returns-clause-rules : goal.returns-clause-rules
returns-clause-rules c = IfOk-weaker c.dispatch_piece.result _ _ (λ p made. subst IsPiece (sym made) (c.pieces_of_classes_are_pieces.ensures.told c.args.method.now (map told_view c.deref-2.result.now) c.method_name_fits.ensures (subst (λ (ts : List Told). All FitTold (map told_view ts)) (c.deref.ensures.value ∙ sym c.deref-2.ensures.value) c.told_fit.ensures))) c.dispatch_piece.ensures.is_seen

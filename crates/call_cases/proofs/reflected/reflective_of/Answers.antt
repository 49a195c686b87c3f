use Rattle.std.proofs.Common.{◌∙◌, List, map, sym, subst}
use Rattle.std.specs.Prelude.{All}
use Rattle.sj_emit_class_printing.specs.Fits.{FitReflected}
use Rattle.js_tree.specs.Rules.{IsPiece}
use Rattle.std.proofs.lemmas.Result.{IfOk-weaker}
use Rattle.sj_emit_help_spec.specs.Words.{told_kinds}
use Rattle.sj_emit_class_spec.specs.Dispatch.{AreReflected}
use Rattle.sj_emit_class_parts.specs.Cases.{reflected_view}
use Rattle.sj_emit_class_parts.specs.declared.dispatch.Reflected.{Reflected}
use Rattle.call_cases.proofs.reflected.reflective_of.Goals as goal

pub returns-clause-piece : goal.returns-clause-piece
returns-clause-piece c =
    let reflected = subst (λ (ts : List Reflected). AreReflected c.args.w.now.world c.args.w.now.facts c.args.proxy.now told_kinds (map reflected_view ts)) (sym c.deref-2.ensures.value) c.in_ok-cases.ensures in
    IfOk-weaker c.reflective_piece.result _ _ (λ p made. record { cases = map reflected_view c.deref-2.result.now; are_reflected = reflected; piece_is = made }) c.reflective_piece.ensures.is_seen

pub returns-clause-rules : goal.returns-clause-rules
returns-clause-rules c = IfOk-weaker c.reflective_piece.result _ _ (λ p made. subst IsPiece (sym made) (c.pieces_of_classes_are_pieces.ensures.reflected c.args.proxy.now (map reflected_view c.deref-2.result.now) c.method_name_fits.ensures (subst (λ (ts : List Reflected). All FitReflected (map reflected_view ts)) (c.deref.ensures.value ∙ sym c.deref-2.ensures.value) c.reflected_fit.ensures))) c.reflective_piece.ensures.is_seen

use Rattle.std.proofs.Common.{◌≡◌, IfOk, subst, sym}
use Rattle.js_tree.specs.Views.{piece_view}
use Rattle.sj_core.specs.Terms.{Method}
use Rattle.sj_emit_expr_spec.specs.Members.{member_piece}
use Rattle.sj_desugar.specs.Methods.{method_desugared}
use Rattle.sj_emit_expr_pieces.specs.Fits.{TargetsFit}
use Rattle.sj_emit_expr_pieces.specs.Keys.{HasKeys}
use Rattle.sj_emit_expr_pieces.specs.Owners.{FieldsHaveOwners}
use Rattle.sj_emit_expr_pieces.specs.Ranges.{FitsMethod}
use Rattle.dispatch_laws.specs.Targets.{lookup_in}
use Rattle.folder_linking.proofs.Counted.{emits_one}
use Rattle.folder_linking.proofs.Emission.{targets_fit}
use Rattle.folder_linking.proofs.Listed.{names_listed, with_ranges}
use Rattle.folder_linking.proofs.Objects.{with_keys, with_owners}
use Rattle.folder_linking.proofs.functions.emitted_piece.Goals as goal

pub returns-clause-rules : goal.returns-clause-rules
returns-clause-rules g c objects =
    let d = c.args.definition.now in
    c.member_piece.ensures.rules (lookup_in c.args.linked.now.world) c.in_ok-emitted.ensures.emitted (subst FitsMethod (sym c.in_ok-core.ensures) (with_ranges d c.requires.defined)) (subst HasKeys (sym c.in_ok-core.ensures) (with_keys d d.body)) (subst FieldsHaveOwners (sym c.in_ok-core.ensures) (with_owners d d.body objects)) (subst (TargetsFit (lookup_in c.args.linked.now.world)) (sym c.in_ok-core.ensures) (targets_fit c.args.linked.now.world (names_listed c.args.linked.now.world c.requires.listed) (method_desugared d)))

pub returns-clause-piece : goal.returns-clause-piece
returns-clause-piece g c = subst (λ (m : Method). IfOk c.member_piece.result (λ p. piece_view p ≡ member_piece (lookup_in c.args.linked.now.world) c.args.member.now m)) c.in_ok-core.ensures (c.member_piece.ensures.piece (lookup_in c.args.linked.now.world) c.in_ok-emitted.ensures.emitted)

pub returns-clause-counted : goal.returns-clause-counted
returns-clause-counted g c = emits_one c.member_piece.result (g.W.Workers.meter c.args.work.now) (g.W.Workers.meter c.emit.new.work) c.in_ok-emitted.ensures.counted

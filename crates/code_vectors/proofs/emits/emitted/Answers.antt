use Rattle.std.proofs.Common.{◌≡◌, [], IfOk, Option, Some, None, Result, subst, sym}
use Rattle.dispatch_laws.specs.Targets.{lookup_in}
use Rattle.sj_emit_expr_pieces.specs.Ranges.{FitsMember}
use Rattle.code_vectors.proofs.Untargeted.{own}
use Rattle.js_tree.specs.Views.{piece_view}
use Rattle.js_tree.specs.declared.items.JsPiece.{JsPiece}
use Rattle.sj_core.specs.Terms.{Method}
use Rattle.sj_desugar_spec.specs.Desugar.{desugared_member}
use Rattle.sj_desugar.specs.Methods.{desugared_with}
use Rattle.sj_names.specs.declared.method_names.Member.{Member}
use Rattle.sj_emit_expr_pieces.specs.Keys.{HasKeys}
use Rattle.sj_emit_expr_pieces.specs.Owners.{OnObjects, BodyOnObjects, FieldsHaveOwners}
use Rattle.sj_emit_expr_spec.specs.Members.{member_piece}
use Rattle.sj_trees.specs.Term.{Term}
use Rattle.sj_trees.specs.declared.classes.MethodDef.{MethodDef}
use Rattle.code_vectors.proofs.emits.emitted.Goals as goal

with-keys : ((d : MethodDef) (e : Term) → HasKeys (desugared_member d e)) → (d : MethodDef) (body : Option Term) → HasKeys (desugared_with d body)
with-keys h d None = tt
with-keys h d (Some e) = h d e

with-owners : ((d : MethodDef) (e : Term) → OnObjects e → FieldsHaveOwners (desugared_member d e)) → (d : MethodDef) (body : Option Term) → BodyOnObjects body → FieldsHaveOwners (desugared_with d body)
with-owners h d None objects = tt
with-owners h d (Some e) objects = h d e objects

-- the piece of a method is that of one that is equal to it
piece_equal : {E : Type 0} (r : Result JsPiece E) (m : Member) (a b : Method) → a ≡ b → IfOk r (λ p. piece_view p ≡ member_piece (lookup_in []) m a) → IfOk r (λ p. piece_view p ≡ member_piece (lookup_in []) m b)
piece_equal r m a b e h = subst (λ (c : Method). IfOk r (λ p. piece_view p ≡ member_piece (lookup_in []) m c)) e h

pub returns-clause-piece : goal.returns-clause-piece
returns-clause-piece c = piece_equal c.member_piece.result c.args.member.now _ _ c.in_ok-core.ensures (c.member_piece.ensures.piece (lookup_in []) c.in_ok-function.ensures)

pub returns-clause-rules : goal.returns-clause-rules
returns-clause-rules c =
    let d = c.args.method.now in
    c.member_piece.ensures.rules (lookup_in []) c.in_ok-function.ensures c.method_fits.ensures (subst HasKeys (sym c.in_ok-core.ensures) (with-keys c.desugared_members_have_keys.ensures d d.body)) (subst FieldsHaveOwners (sym c.in_ok-core.ensures) (with-owners c.desugared_fields_have_owners.ensures.members d d.body c.requires)) (λ k called h. subst FitsMember (sym (own k)) h)

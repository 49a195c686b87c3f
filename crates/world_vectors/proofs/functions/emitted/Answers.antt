use Rattle.std.proofs.Common.{Option, Some, None, subst, sym}
use Rattle.sj_desugar_spec.specs.Desugar.{desugared_member}
use Rattle.sj_desugar.specs.Methods.{desugared_with}
use Rattle.sj_emit_expr_pieces.specs.Keys.{HasKeys}
use Rattle.sj_emit_expr_pieces.specs.Owners.{OnObjects, BodyOnObjects, FieldsHaveOwners}
use Rattle.sj_trees.specs.Term.{Term}
use Rattle.sj_trees.specs.declared.classes.MethodDef.{MethodDef}
use Rattle.world_vectors.proofs.functions.emitted.Goals as goal

with-keys : ((d : MethodDef) (e : Term) → HasKeys (desugared_member d e)) → (d : MethodDef) (body : Option Term) → HasKeys (desugared_with d body)
with-keys h d None = tt
with-keys h d (Some e) = h d e

with-owners : ((d : MethodDef) (e : Term) → OnObjects e → FieldsHaveOwners (desugared_member d e)) → (d : MethodDef) (body : Option Term) → BodyOnObjects body → FieldsHaveOwners (desugared_with d body)
with-owners h d None objects = tt
with-owners h d (Some e) objects = h d e objects

pub returns : goal.returns
returns c =
    let d = c.args.method.now in
    let f = c.in_ok-function.ensures in
    c.member_piece.ensures.rules f.known f.is c.method_fits.ensures (subst HasKeys (sym c.in_ok-core.ensures) (with-keys c.desugared_members_have_keys.ensures d d.body)) (subst FieldsHaveOwners (sym c.in_ok-core.ensures) (with-owners c.desugared_fields_have_owners.ensures.members d d.body c.requires)) f.fit

use Rattle.std.proofs.Common.{◌∙◌, sym}
use Rattle.code_vectors.proofs.Objects.{body_on_objects}
use Rattle.code_vectors.proofs.forms.is_without_objects.Goals as goal

pub returns : goal.returns
returns c h = body_on_objects c.args.method.now.body (sym c.has_static_body.ensures ∙ h)

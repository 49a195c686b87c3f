use Rattle.agree_soundness.proofs.Chains.{has_fields}
use Rattle.agree_soundness.proofs.classes_with_an_instance_field_have_fields.Goals as goal

pub returns : goal.returns
returns c = has_fields

use Rattle.agree_body_forms.proofs.Rows.{worked}
use Rattle.agree_body_forms.proofs.laws.worked_forms.Goals as goal

pub returns : goal.returns
returns c = worked

use Rattle.agree_soundness.proofs.Worked.{object_laws, gets_right}
use Rattle.agree_soundness.proofs.worked_objects.Goals as goal

pub returns-clause-laws : goal.returns-clause-laws
returns-clause-laws c = object_laws

pub returns-clause-never_wrong : goal.returns-clause-never_wrong
returns-clause-never_wrong c = gets_right

use Rattle.agree_soundness.proofs.Worked.{array_laws, length_never_wrong}
use Rattle.agree_soundness.proofs.worked_arrays.Goals as goal

pub returns-clause-laws : goal.returns-clause-laws
returns-clause-laws c = array_laws

pub returns-clause-never_wrong : goal.returns-clause-never_wrong
returns-clause-never_wrong c = length_never_wrong

use Rattle.std.proofs.Common.{refl}
use Rattle.std.specs.Fmt.{digits}
use Rattle.std.specs.Str.{chars}
use Rattle.ir_mean.proofs.worked_objects.Goals as goal

pub returns-clause-fields : goal.returns-clause-fields
unfolding digits
returns-clause-fields c = refl

pub returns-clause-dispatches : goal.returns-clause-dispatches
returns-clause-dispatches c = refl

pub returns-clause-all_caught : goal.returns-clause-all_caught
unfolding digits chars
returns-clause-all_caught c = refl

pub returns-clause-order : goal.returns-clause-order
unfolding digits
returns-clause-order c = refl

pub returns-clause-tests : goal.returns-clause-tests
unfolding digits
returns-clause-tests c = refl

pub returns-clause-arrays : goal.returns-clause-arrays
unfolding digits
returns-clause-arrays c = refl

pub returns-clause-finals : goal.returns-clause-finals
unfolding digits
returns-clause-finals c = refl

pub returns-clause-given_up : goal.returns-clause-given_up
unfolding digits
returns-clause-given_up c = refl

use Rattle.std.proofs.Common.{refl}
use Rattle.std.specs.Fmt.{digits}
use Rattle.class_tests.proofs.worked_dispatch.Goals as goal

pub returns-clause-within_2 : goal.returns-clause-within_2
unfolding digits
returns-clause-within_2 c = refl

pub returns-clause-within_3 : goal.returns-clause-within_3
unfolding digits
returns-clause-within_3 c = refl

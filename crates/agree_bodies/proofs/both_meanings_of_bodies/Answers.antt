use Rattle.std.proofs.Common.{refl}
use Rattle.std.specs.Fmt.{digits}
use Rattle.agree_bodies.proofs.both_meanings_of_bodies.Goals as goal

pub returns-clause-order : goal.returns-clause-order
unfolding digits
returns-clause-order c = refl

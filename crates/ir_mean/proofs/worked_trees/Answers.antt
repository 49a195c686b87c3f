use Rattle.std.proofs.Common.{refl}
use Rattle.std.specs.Fmt.{digits}
use Rattle.ir_mean.proofs.worked_trees.Goals as goal

pub returns-clause-joined : goal.returns-clause-joined
unfolding digits
returns-clause-joined c = refl

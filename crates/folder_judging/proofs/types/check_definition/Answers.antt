use Rattle.std.proofs.Common.{arith}
use Rattle.folder_judging.proofs.types.check_definition.Goals as goal

pub returns-clause-counted : goal.returns-clause-counted
returns-clause-counted g c = record { checks = 1; most = omega arith; counted = c.check_method.ensures.counted }

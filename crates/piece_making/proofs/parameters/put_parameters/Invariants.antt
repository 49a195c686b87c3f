use Rattle.std.proofs.Common.{◌≡◌, ◌++◌}
use Rattle.sj_emit_help_spec.specs.Words.{first_parameters}
use Rattle.piece_making.proofs.parameters.put_parameters.Given as goal

abbrev pub invariant-loop-number : goal.invariant-loop-number
invariant-loop-number l = l.names.items ≡ l.fn.names.items ++ first_parameters l.number

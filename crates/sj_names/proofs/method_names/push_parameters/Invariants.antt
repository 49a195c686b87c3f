use Rattle.std.proofs.Common.{◌≡◌, ◌++◌, drop}
use Rattle.std.specs.String.{string_bytes}
use Rattle.sj_names.specs.MethodNames.{spelled_parameters}
use Rattle.sj_names.proofs.method_names.push_parameters.Given as goal

abbrev pub invariant-loop-parameter : goal.invariant-loop-parameter
invariant-loop-parameter l = string_bytes l.text ++ spelled_parameters (drop l.parameter-index l.parameters) ≡ string_bytes l.initial.text ++ spelled_parameters l.parameters

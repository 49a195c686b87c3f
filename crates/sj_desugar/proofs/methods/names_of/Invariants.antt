use Rattle.std.proofs.Common.{◌≡◌, ◌++◌, drop}
use Rattle.sj_desugar_spec.specs.Desugar.{names_of}
use Rattle.sj_desugar.proofs.methods.names_of.Given as goal

abbrev pub invariant-loop-param : goal.invariant-loop-param
invariant-loop-param l = l.names.items ++ names_of (drop l.param-index l.params) ≡ names_of l.params

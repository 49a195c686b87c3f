use Rattle.std.proofs.Common.{◌≡◌, ◌++◌, drop, map}
use Rattle.sj_local.specs.TreeRules.{declared_param}
use Rattle.sj_local.proofs.walks.declared_params.Given as goal

abbrev pub invariant-loop-param : goal.invariant-loop-param
invariant-loop-param l = l.declared.items ++ map declared_param (drop l.param-index l.params) ≡ map declared_param l.params

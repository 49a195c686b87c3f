use Rattle.std.proofs.Common.{◌≡◌, ◌++◌, drop}
use Rattle.sj_canon.specs.Numbers.{each_bytes}
use Rattle.sj_canon.specs.Methods.{param_bytes}
use Rattle.sj_canon.proofs.methods.put_each_param.Given as goal

abbrev pub invariant-loop-param : goal.invariant-loop-param
invariant-loop-param l = l.out.items ++ each_bytes param_bytes (drop l.param-index l.params) ≡ l.fn.out.items ++ each_bytes param_bytes l.params

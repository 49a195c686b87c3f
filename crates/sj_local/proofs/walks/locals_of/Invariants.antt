use Rattle.std.proofs.Common.{◌≡◌, ◌++◌, drop, map}
use Rattle.sj_local.specs.TreeRules.{local_of}
use Rattle.sj_local.proofs.walks.locals_of.Given as goal

abbrev pub invariant-loop-param : goal.invariant-loop-param
invariant-loop-param l = l.locals.items ++ map local_of (drop l.param-index l.params) ≡ map local_of l.params

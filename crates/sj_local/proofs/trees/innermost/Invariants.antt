use Rattle.std.proofs.Common.{◌≡◌, drop}
use Rattle.std.specs.Prelude.{option_map}
use Rattle.sj_local.specs.TreeRules.{last_some, innermost}
use Rattle.sj_local.proofs.trees.innermost.Given as goal

abbrev pub invariant-loop-local : goal.invariant-loop-local
invariant-loop-local l = last_some (option_map (λ x. x.now) l.found) (innermost (drop l.local-index l.scope) l.name) ≡ innermost l.scope l.name

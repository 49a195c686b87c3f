use Rattle.std.proofs.Common.{option_map}
use Rattle.sj_world.proofs.Targets.{LeastYet}
use Rattle.sj_world.proofs.reflective.least_named.Given as goal

abbrev pub invariant-loop-method : goal.invariant-loop-method
invariant-loop-method l = LeastYet l.proxy l.methods l.method-index (option_map (λ d. d.now) l.least)

use Rattle.sj_world.proofs.OnCycles.{NoneBelow}
use Rattle.sj_world.proofs.cycles.least_on_cycle.Given as goal

abbrev pub invariant-loop-class : goal.invariant-loop-class
invariant-loop-class l = NoneBelow l.classes l.class-index

use Rattle.sj_world.proofs.Searches.{NoneYet}
use Rattle.call_cases.proofs.ReflectedSteps.{SomeReached}
use Rattle.call_cases.proofs.reflected.first_reached.Given as goal

abbrev pub invariant-loop-name : goal.invariant-loop-name
invariant-loop-name l = NoneYet (SomeReached l.w.world l.w.facts l.class) l.names l.name-index

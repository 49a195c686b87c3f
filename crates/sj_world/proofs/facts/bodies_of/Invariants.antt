use Rattle.sj_world.proofs.Kept.{BodiesYet}
use Rattle.sj_world.proofs.facts.bodies_of.Given as goal

abbrev pub invariant-loop-fact : goal.invariant-loop-fact
invariant-loop-fact l = BodiesYet l.facts l.fact-index l.bodies.keys

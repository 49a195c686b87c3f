use Rattle.sj_world.proofs.Kept.{BelowYet}
use Rattle.sj_world.proofs.below.made_below.Given as goal

abbrev pub invariant-loop-fact : goal.invariant-loop-fact
invariant-loop-fact l = BelowYet l.world l.facts l.fact-index l.below

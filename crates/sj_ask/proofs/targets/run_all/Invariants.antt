use Rattle.sj_world.proofs.Searches.{AllYet}
use Rattle.sj_ask.specs.Answers.{public_member}
use Rattle.sj_ask.proofs.Searched.{Runs}
use Rattle.sj_ask.proofs.targets.run_all.Given as goal

abbrev pub invariant-loop-class : goal.invariant-loop-class
invariant-loop-class l = AllYet (Runs l.world l.method (public_member l.owner l.method)) l.made l.class-index

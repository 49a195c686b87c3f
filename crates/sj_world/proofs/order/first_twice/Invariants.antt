use Rattle.sj_world.proofs.Twice.{Rising}
use Rattle.sj_world.proofs.order.first_twice.Given as goal

abbrev pub invariant-loop-place : goal.invariant-loop-place
invariant-loop-place l = Rising l.classes l.place

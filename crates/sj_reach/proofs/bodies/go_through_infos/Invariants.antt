use Rattle.sj_reach.specs.Steps as steps
use Rattle.sj_reach.proofs.Adding.{AmongFirst}
use Rattle.sj_reach.specs.Conclusions.{Adds}
use Rattle.sj_reach.proofs.bodies.go_through_infos.Given as goal

abbrev pub invariant-loop-info : goal.invariant-loop-info
invariant-loop-info l = Adds (AmongFirst l.infos l.info-index (steps.OfSeenInfo l.world l.seen)) l.fn.found l.found

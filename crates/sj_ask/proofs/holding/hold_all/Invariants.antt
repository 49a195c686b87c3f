use Rattle.std.specs.List.{All}
use Rattle.std.proofs.Common.{take}
use Rattle.sj_ask.specs.Stands.{stand_of}
use Rattle.sj_ask.specs.Answers.{IsAnswer}
use Rattle.sj_ask.proofs.holding.hold_all.Given as goal

abbrev pub invariant-loop-asked : goal.invariant-loop-asked
invariant-loop-asked l = All (λ x. IsAnswer (stand_of l.world l.k) x.0 x.1) (take l.asked-index l.log)

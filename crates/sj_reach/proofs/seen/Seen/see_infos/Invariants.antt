use Rattle.sj_infos.specs.declared.infos.Info.TheVariants.{Reflective}
use Rattle.sj_reach.specs.Seen.{SeesNames}
use Rattle.sj_world.proofs.Kept.{IsOneOfFirst}
use Rattle.sj_reach.proofs.seen.Seen.see_infos.Given as goal

abbrev pub invariant-loop-info : goal.invariant-loop-info
invariant-loop-info l = SeesNames (λ q. IsOneOfFirst l.infos l.info-index (Reflective q)) l.fn.self l.self

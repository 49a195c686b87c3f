use Rattle.sj_world.proofs.Searches.{AllYet}
use Rattle.sj_world.proofs.Targets.{StandsBelow}
use Rattle.proxy_targets.proofs.proxies.is_below_all.Given as goal

abbrev pub invariant-loop-method : goal.invariant-loop-method
invariant-loop-method l = AllYet (StandsBelow l.world l.proxy l.tpe) l.methods l.method-index

use Rattle.sj_world.proofs.Searches.{NoneYet}
use Rattle.proxy_targets.specs.Proxies.{IsNamedBefore}
use Rattle.proxy_targets.proofs.proxies.has_none_before.Given as goal

abbrev pub invariant-loop-other : goal.invariant-loop-other
invariant-loop-other l = NoneYet (IsNamedBefore l.proxy l.method) l.methods l.other-index

use Rattle.sj_baselink.specs.Steps.{Puts, IsProxyOf}
use Rattle.sj_baselink.proofs.Putting.{OfFirst}
use Rattle.sj_baselink.proofs.proxies.put_proxies_of.Given as goal

abbrev pub invariant-loop-proxy : goal.invariant-loop-proxy
invariant-loop-proxy l = Puts (OfFirst l.proxies l.proxy-index (IsProxyOf l.w l.class)) l.fn.entries.keys l.entries.keys

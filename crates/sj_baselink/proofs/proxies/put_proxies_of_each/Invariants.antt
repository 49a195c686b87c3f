use Rattle.sj_baselink.specs.Steps.{Puts, OfOne, IsProxyOf}
use Rattle.sj_baselink.proofs.Putting.{OfFirst}
use Rattle.sj_baselink.proofs.proxies.put_proxies_of_each.Given as goal

abbrev pub invariant-loop-class : goal.invariant-loop-class
invariant-loop-class l = Puts (OfFirst l.classes l.class-index (λ c. OfOne l.proxies (IsProxyOf l.w c))) l.fn.entries.keys l.entries.keys

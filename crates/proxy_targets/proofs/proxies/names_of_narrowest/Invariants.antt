use Rattle.proxy_targets.specs.Proxies.{IsNarrow}
use Rattle.proxy_targets.proofs.Named.{NamesFirst}
use Rattle.proxy_targets.proofs.proxies.names_of_narrowest.Given as goal

abbrev pub invariant-loop-method : goal.invariant-loop-method
invariant-loop-method l = NamesFirst (IsNarrow l.world l.proxy l.methods) l.methods l.method-index l.names.items

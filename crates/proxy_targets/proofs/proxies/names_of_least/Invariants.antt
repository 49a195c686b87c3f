use Rattle.proxy_targets.specs.Proxies.{IsLeastOf}
use Rattle.proxy_targets.proofs.Named.{NamesFirst}
use Rattle.proxy_targets.proofs.proxies.names_of_least.Given as goal

abbrev pub invariant-loop-method : goal.invariant-loop-method
invariant-loop-method l = NamesFirst (IsLeastOf l.proxy l.methods) l.methods l.method-index l.names.items

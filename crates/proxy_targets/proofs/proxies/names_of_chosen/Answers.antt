use Rattle.std.proofs.Common.{arith}
use Rattle.std.proofs.lemmas.Result.{IfOk-weaker}
use Rattle.proxy_targets.proofs.Named.{chosen_narrowest, chosen_least}
use Rattle.proxy_targets.proofs.proxies.names_of_chosen.Goals as goal

pub returns-then-len-gt0 : goal.returns-then-len-gt0
returns-then-len-gt0 c = chosen_narrowest _ _ _ _ (omega arith) c.in_ok-names.ensures

pub returns-else-len-gt0 : goal.returns-else-len-gt0
returns-else-len-gt0 c = IfOk-weaker _ _ _ (λ names h. chosen_least _ _ _ c.in_ok-names.names.items _ (omega arith) c.in_ok-names.ensures h) c.names_of_least.ensures

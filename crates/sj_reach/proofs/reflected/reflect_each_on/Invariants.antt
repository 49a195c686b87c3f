use Rattle.sj_reach.specs.Steps as steps
use Rattle.sj_reach.proofs.Adding.{AmongFirst}
use Rattle.sj_reach.specs.Conclusions.{Adds}
use Rattle.sj_reach.proofs.reflected.reflect_each_on.Given as goal

abbrev pub invariant-loop-proxy : goal.invariant-loop-proxy
invariant-loop-proxy l = Adds (AmongFirst l.proxies l.proxy-index (λ p. steps.OfProxy l.world p l.class)) l.fn.found l.found

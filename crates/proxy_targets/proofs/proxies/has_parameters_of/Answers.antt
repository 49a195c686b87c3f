use Rattle.sj_world.proofs.Targets.{parameters_tested}
use Rattle.proxy_targets.proofs.proxies.has_parameters_of.Goals as goal

pub returns-then-is_same : goal.returns-then-is_same
returns-then-is_same c = parameters_tested c.args.name.now c.args.proxy.now c.eq.result c.eq.ensures (c.is_same.ensures.same.0 c.if-is_same.true)

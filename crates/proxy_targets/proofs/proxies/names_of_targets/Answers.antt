use Rattle.std.proofs.lemmas.Result.{IfOk-weaker}
use Rattle.proxy_targets.proofs.Named.{names_of_class, no_names}
use Rattle.proxy_targets.proofs.proxies.names_of_targets.Goals as goal

pub returns-in_default : goal.returns-in_default
returns-in_default c = no_names c.args.world.now c.args.class.now c.args.proxy.now _ c.new.ensures.items c.in_default.ensures

pub returns : goal.returns
returns c = IfOk-weaker _ _ _ (λ names h. names_of_class c.args.world.now c.args.class.now c.args.proxy.now c.in-Some.target.method.now c.in-Some.target.owner.now c.in-Some-class.owner.now c.as_slice.result.now _ c.in-Some.ensures c.in-Some-class.ensures c.as_slice.ensures h) c.names_of_chosen.ensures

use Rattle.std.proofs.lemmas.Result.{IfOk-weaker}
use Rattle.call_cases.proofs.ReflectedSteps.{reflected_of}
use Rattle.call_cases.proofs.reflected.reflected_target.Goals as goal

pub returns : goal.returns
returns c = IfOk-weaker c.first_reached.result _ _ (λ found q. reflected_of c.args.w.now.world c.args.w.now.facts c.args.class.now c.args.proxy.now _ _ _ found c.world.ensures c.deref.ensures.value c.in_ok-names.ensures q) c.first_reached.ensures

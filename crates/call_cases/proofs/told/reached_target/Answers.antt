use Rattle.std.proofs.lemmas.Result.{IfOk-weaker}
use Rattle.call_cases.proofs.Steps.{reached, none_abstract, none_missing}
use Rattle.call_cases.proofs.told.reached_target.Goals as goal

pub returns-in-Target : goal.returns-in-Target
returns-in-Target c = IfOk-weaker c.if_reached.result _ _ (λ found q. reached c.args.w.now.world c.args.w.now.facts c.args.class.now c.args.method.now _ _ c.in-Target.owner.now found c.world.ensures c.in-Target.ensures q) c.if_reached.ensures

pub returns-in-Abstract : goal.returns-in-Abstract
returns-in-Abstract c = none_abstract c.args.w.now.world c.args.w.now.facts c.args.class.now c.args.method.now _ c.world.ensures c.in-Abstract.ensures

pub returns-in-Missing : goal.returns-in-Missing
returns-in-Missing c = none_missing c.args.w.now.world c.args.w.now.facts c.args.class.now c.args.method.now _ c.world.ensures c.in-Missing.ensures

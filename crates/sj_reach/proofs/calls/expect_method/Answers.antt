use Rattle.std.proofs.lemmas.Result.{on_ok_weaker}
use Rattle.sj_world.specs.Resolution.{target, abstract, missing}
use Rattle.sj_reach.specs.Steps.{at_receiver}
use Rattle.sj_reach.proofs.Adding.{adds_answered, adds_none}
use Rattle.sj_reach.proofs.calls.expect_method.Goals as goal

pub returns-in-Target : goal.returns-in-Target
returns-in-Target c = adds_answered c.args.world.now c.args.class.now c.args.method.now (at_receiver c.args.world.now c.args.class.now c.args.method.now) (target c.in-Target.field-0.now c.in-Target.field-1.now) _ _ c.in-Target.ensures (adds_none _ _ (λ x q. q))

pub returns-in-Abstract : goal.returns-in-Abstract
returns-in-Abstract c = adds_answered c.args.world.now c.args.class.now c.args.method.now (at_receiver c.args.world.now c.args.class.now c.args.method.now) abstract _ _ c.in-Abstract.ensures (adds_none _ _ (λ x q. q))

pub returns-in-Missing : goal.returns-in-Missing
returns-in-Missing c = on_ok_weaker _ (adds_answered c.args.world.now c.args.class.now c.args.method.now (at_receiver c.args.world.now c.args.class.now c.args.method.now) missing _ _ c.in-Missing.ensures) c.tell_missing_if_present.ensures

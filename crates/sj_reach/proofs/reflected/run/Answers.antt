use Rattle.std.proofs.lemmas.Result.{on_ok_weaker}
use Rattle.sj_world.specs.Resolution.{target, abstract, missing}
use Rattle.sj_reach.specs.Steps.{at_hijacked}
use Rattle.sj_reach.proofs.Adding.{adds_answered, adds_none}
use Rattle.sj_reach.proofs.reflected.run.Goals as goal

pub returns-in-Target : goal.returns-in-Target
returns-in-Target c = on_ok_weaker _ (adds_answered c.args.world.now c.args.class.now c.args.method.now (at_hijacked c.args.world.now c.args.class.now c.args.method.now) (target c.in-Target.field-0.now c.in-Target.owner.now) _ _ c.in-Target.ensures) c.need_body.ensures

pub returns-in-Abstract : goal.returns-in-Abstract
returns-in-Abstract c = on_ok_weaker _ (adds_answered c.args.world.now c.args.class.now c.args.method.now (at_hijacked c.args.world.now c.args.class.now c.args.method.now) abstract _ _ c.in-Abstract.ensures) c.tell_no_body.ensures

pub returns-in-Missing : goal.returns-in-Missing
returns-in-Missing c = adds_answered c.args.world.now c.args.class.now c.args.method.now (at_hijacked c.args.world.now c.args.class.now c.args.method.now) missing _ _ c.in-Missing.ensures (adds_none _ _ (λ x q. q))

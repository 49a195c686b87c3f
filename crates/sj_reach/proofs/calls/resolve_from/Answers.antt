use Rattle.std.proofs.lemmas.Result.{on_ok_weaker}
use Rattle.sj_world.specs.Resolution.{target, abstract, missing}
use Rattle.sj_reach.specs.Steps.{at_resolved}
use Rattle.sj_reach.proofs.Adding.{adds_answered}
use Rattle.sj_reach.proofs.calls.resolve_from.Goals as goal

pub returns-in-Target : goal.returns-in-Target
returns-in-Target c = on_ok_weaker _ (adds_answered c.args.world.now c.args.class.now c.args.method.now (at_resolved c.args.world.now c.args.class.now c.args.method.now) (target c.in-Target.field-0.now c.in-Target.owner.now) _ _ c.in-Target.ensures) c.need_body.ensures

pub returns-in-Abstract : goal.returns-in-Abstract
returns-in-Abstract c = on_ok_weaker _ (adds_answered c.args.world.now c.args.class.now c.args.method.now (at_resolved c.args.world.now c.args.class.now c.args.method.now) abstract _ _ c.in-Abstract.ensures) c.tell_abstract_if_present.ensures

pub returns-in-Missing : goal.returns-in-Missing
returns-in-Missing c = on_ok_weaker _ (adds_answered c.args.world.now c.args.class.now c.args.method.now (at_resolved c.args.world.now c.args.class.now c.args.method.now) missing _ _ c.in-Missing.ensures) c.tell_missing_if_present.ensures

use Rattle.std.proofs.lemmas.Result.{on_ok_weaker}
use Rattle.sj_reach.proofs.Arms.{adds_ancestors}
use Rattle.sj_reach.proofs.dispatched.dispatch_from_above.Goals as goal

pub returns-in-Some : goal.returns-in-Some
returns-in-Some c = on_ok_weaker _ (adds_ancestors c.args.world.now c.args.called.now c.args.class.now c.in-Some.ancestors.now _ _ c.in-Some.ensures.1) c.dispatch_from_each.ensures

use Rattle.std.proofs.lemmas.Result.{on_ok_weaker}
use Rattle.sj_reach.proofs.Arms.{adds_targets}
use Rattle.sj_reach.proofs.reflected.run_on_hijacked.Goals as goal

pub returns : goal.returns
returns c = on_ok_weaker _ (adds_targets c.args.world.now c.args.class.now c.args.proxy.now _ _ _ _ _ c.as_slice.ensures.value c.in_ok-names.ensures) c.run_each.ensures

use Rattle.std.proofs.lemmas.Result.{on_ok_weaker}
use Rattle.sj_baselink.proofs.Chosen.{puts_direct}
use Rattle.sj_baselink.proofs.direct.put_direct.Goals as goal

pub returns : goal.returns
returns c = on_ok_weaker _ (puts_direct c.args.w.now c.args.r.now c.args.made.now _ _ _ _ c.requires c.in_ok-live.ensures c.as_slice.ensures.keys) c.put_direct_of_each.ensures

use Rattle.std.proofs.lemmas.Result.{on_ok_weaker}
use Rattle.sj_baselink.proofs.Gathered.{wanted_above}
use Rattle.sj_baselink.proofs.Chosen.{puts_of_class}
use Rattle.sj_baselink.proofs.direct.put_direct_of.Goals as goal

pub put_own_of_each-requires : goal.put_own_of_each-requires
put_own_of_each-requires c = wanted_above c.args.w.now c.args.r.now c.args.called.now c.requires c.args.class.now _ c.in_ok-above.ensures

pub returns : goal.returns
returns c = on_ok_weaker _ (puts_of_class c.args.w.now c.args.r.now c.args.called.now c.args.class.now _ _ _ _ c.requires c.in_ok-wanted.ensures c.as_slice.ensures.keys) c.put_own_of_each.ensures

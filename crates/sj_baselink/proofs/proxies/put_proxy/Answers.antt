use Rattle.std.proofs.lemmas.Result.{on_ok_weaker}
use Rattle.sj_baselink.proofs.Chosen.{puts_of_proxy}
use Rattle.sj_baselink.proofs.proxies.put_proxy.Goals as goal

pub returns : goal.returns
returns c = on_ok_weaker _ (puts_of_proxy c.args.w.now c.args.class.now c.args.proxy.now _ _ _ _ c.in_ok-names.ensures c.deref.ensures.value) c.put_targets.ensures

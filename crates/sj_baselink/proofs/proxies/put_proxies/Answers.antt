use Rattle.std.proofs.lemmas.Result.{on_ok_weaker}
use Rattle.sj_baselink.proofs.Chosen.{puts_proxies}
use Rattle.sj_baselink.proofs.proxies.put_proxies.Goals as goal

pub returns : goal.returns
returns c = on_ok_weaker _ (puts_proxies c.args.w.now c.args.facts.now c.args.made.now _ _ _ _ c.requires c.in_ok-proxies.ensures c.as_slice.ensures.keys) c.put_proxies_of_each.ensures

use Rattle.std.proofs.lemmas.Result.{on_ok_weaker}
use Rattle.sj_baselink.proofs.Chosen.{puts_entries}
use Rattle.sj_baselink.proofs.entries.put_entries.Goals as goal

pub returns : goal.returns
returns c = on_ok_weaker _ (puts_entries c.args.w.now c.args.r.now _ _ _ _ c.facts-2.ensures c.in_ok-put_direct.ensures) c.put_proxies.ensures

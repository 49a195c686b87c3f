use Rattle.std.proofs.lemmas.Result.{on_ok_weaker}
use Rattle.std.proofs.Common.{sym, ◌∙◌}
use Rattle.sj_reach.proofs.Arms.{adds_seen, adds_new}
use Rattle.sj_reach.proofs.infos.reflect.Goals as goal

pub returns-then-contains : goal.returns-then-contains
returns-then-contains c = adds_seen c.args.world.now c.args.seen.now c.args.proxy.now _ (sym c.contains.ensures ∙ c.if-contains.true)

pub returns-else-contains : goal.returns-else-contains
returns-else-contains c = on_ok_weaker _ (adds_new c.args.world.now c.args.seen.now c.args.proxy.now _ _ (sym c.contains.ensures ∙ c.if-contains.false)) c.reflect_anew.ensures

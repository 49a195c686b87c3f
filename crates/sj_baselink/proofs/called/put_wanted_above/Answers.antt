use Rattle.std.proofs.lemmas.Result.{on_ok_weaker}
use Rattle.sj_baselink.proofs.Gathered.{puts_at_next, puts_without_next}
use Rattle.sj_baselink.proofs.called.put_wanted_above.Goals as goal

pub returns-in-Some : goal.returns-in-Some
returns-in-Some c = on_ok_weaker _ (puts_at_next c.args.w.now c.args.called.now c.args.class.now c.in-Some.above.now _ _ c.in-Some.ensures) c.put_wanted.ensures

pub returns-in-None : goal.returns-in-None
returns-in-None c = puts_without_next c.args.w.now c.args.called.now c.args.class.now _ c.in-None.ensures

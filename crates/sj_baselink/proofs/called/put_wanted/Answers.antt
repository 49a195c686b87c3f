use Rattle.std.proofs.lemmas.Result.{on_ok_weaker}
use Rattle.sj_baselink.proofs.Gathered.{puts_wanted, puts_none_wanted}
use Rattle.sj_baselink.proofs.called.put_wanted.Goals as goal

pub returns-in-Some : goal.returns-in-Some
returns-in-Some c = on_ok_weaker _ (puts_wanted c.args.w.now c.args.called.now c.args.class.now c.in-Some.ancestors.now _ _ c.in-Some.ensures.1) c.put_called_on_each.ensures

pub returns-in-None : goal.returns-in-None
returns-in-None c = puts_none_wanted c.args.w.now c.args.called.now c.args.class.now _ c.in-None.ensures

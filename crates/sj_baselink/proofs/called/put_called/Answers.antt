use Rattle.std.proofs.lemmas.Result.{on_ok_weaker}
use Rattle.sj_baselink.proofs.Gathered.{puts_called}
use Rattle.sj_baselink.proofs.called.put_called.Goals as goal

pub returns-in_ok-copied-in-Called : goal.returns-in_ok-copied-in-Called
returns-in_ok-copied-in-Called c = on_ok_weaker _ (puts_called c.args.fact.now c.in-Called.class c.in-Called.method c.in_ok-copied-in-Called.field-0 _ _ c.in-Called.is c.in_ok-copied-in-Called.ensures) c.put.ensures

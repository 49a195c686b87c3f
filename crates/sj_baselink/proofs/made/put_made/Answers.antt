use Rattle.std.proofs.lemmas.Result.{on_ok_weaker}
use Rattle.sj_baselink.proofs.Gathered.{puts_made}
use Rattle.sj_baselink.proofs.made.put_made.Goals as goal

pub returns-in-Made : goal.returns-in-Made
returns-in-Made c = on_ok_weaker _ (puts_made c.args.fact.now c.in-Made.class _ _ c.in-Made.is) c.put_class.ensures

use Rattle.std.proofs.lemmas.Result.{on_ok_weaker}
use Rattle.sj_baselink.proofs.Gathered.{puts_body}
use Rattle.sj_baselink.proofs.reflective.put_reflective.Goals as goal

pub returns-in-Body : goal.returns-in-Body
returns-in-Body c = on_ok_weaker _ (puts_body c.args.w.now c.args.fact.now c.in-Body.member _ _ c.in-Body.is) c.put_reflective_in.ensures

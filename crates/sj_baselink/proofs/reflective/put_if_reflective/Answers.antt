use Rattle.std.proofs.lemmas.Result.{on_ok_weaker}
use Rattle.sj_baselink.proofs.Gathered.{puts_form}
use Rattle.sj_baselink.proofs.reflective.put_if_reflective.Goals as goal

pub returns-in-Reflective : goal.returns-in-Reflective
returns-in-Reflective c = on_ok_weaker _ (puts_form c.args.form.now c.in-Reflective.proxy _ _ c.in-Reflective.is) c.put_name.ensures

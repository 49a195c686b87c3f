use Rattle.std.proofs.lemmas.Result.{on_ok_weaker}
use Rattle.sj_baselink.proofs.Gathered.{puts_forms_by}
use Rattle.sj_baselink.proofs.reflective.put_reflective_of.Goals as goal

pub returns : goal.returns
returns c = on_ok_weaker _ (puts_forms_by c.args.method.now _ _ _ _ c.in_ok-forms.ensures c.deref.ensures.value) c.put_reflective_among.ensures

use Rattle.std.proofs.lemmas.Result.{on_ok_weaker}
use Rattle.sj_emit_class_needs.proofs.Putting.{puts_forms_by}
use Rattle.sj_emit_class_needs.proofs.forms.put_forms_by.Goals as goal

pub returns : goal.returns
returns c = on_ok_weaker _ (puts_forms_by c.args.method.now _ _ _ _ c.in_ok-forms.ensures c.deref.ensures.value) c.put_forms.ensures

use Rattle.std.proofs.Common.{sym, ◌∙◌}
use Rattle.std.proofs.lemmas.Result.{on_ok_weaker}
use Rattle.sj_emit_class_needs.proofs.Putting.{puts_need, puts_no_need}
use Rattle.sj_emit_class_needs.proofs.forms.put_form.Goals as goal

pub returns-in-Some : goal.returns-in-Some
returns-in-Some c = on_ok_weaker _ (puts_need c.args.form.now c.in-Some.need _ _ (sym c.in_ok-needed.ensures ∙ c.in-Some.is)) c.put.ensures

pub returns-in-None : goal.returns-in-None
returns-in-None c = puts_no_need c.args.form.now _ (sym c.in_ok-needed.ensures ∙ c.in-None.is)

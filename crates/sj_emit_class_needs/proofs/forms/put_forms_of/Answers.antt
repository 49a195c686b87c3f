use Rattle.std.proofs.lemmas.Result.{on_ok_weaker}
use Rattle.sj_baselink.proofs.Gathered.{is_method_of, no_method_of}
use Rattle.sj_emit_class_needs.proofs.Putting.{puts_in, puts_none_in}
use Rattle.sj_emit_class_needs.proofs.forms.put_forms_of.Goals as goal

pub returns-in-Some-method_in : goal.returns-in-Some-method_in
returns-in-Some-method_in c = on_ok_weaker _ (puts_in c.args.w.now c.args.member.now c.in-Some-method_in.method.now _ _ (is_method_of c.args.w.now c.args.member.now c.in-Some.class.now _ c.in-Some-method_in.method.now c.in-Some.ensures c.as_slice.ensures c.in-Some-method_in.ensures)) c.put_forms_by.ensures

pub returns-in-None : goal.returns-in-None
returns-in-None c = puts_none_in c.args.w.now c.args.member.now _ (no_method_of c.args.w.now c.args.member.now c.in-Some.class.now _ c.in-Some.ensures c.as_slice.ensures c.in-None.ensures)

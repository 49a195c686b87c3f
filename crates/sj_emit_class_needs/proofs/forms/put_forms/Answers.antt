use Rattle.std.proofs.Common.{Contains, refl, arith}
use Rattle.std.proofs.lemmas.Option.{slice_get_read}
use Rattle.sj_baselink.proofs.Putting.{each_begins, each_goes_on}
use Rattle.sj_emit_class_needs.proofs.Putting.{puts_forms}
use Rattle.sj_emit_class_needs.proofs.forms.put_forms.Goals as goal

pub loop-form-init : goal.loop-form-init
loop-form-init c = each_begins Contains _ _ _

pub loop-form-preserved : goal.loop-form-preserved
loop-form-preserved c = each_goes_on Contains _ c.args.forms.now c.loop-form.form-index c.form-item.result _ _ _ (slice_get_read c.args.forms.now _ c.loop-form.form-index c.form-item.result refl (omega arith) c.form-item.is) c.loop-form.invariant c.in_ok-put_form.ensures

pub returns : goal.returns
returns c = puts_forms c.args.forms.now c.loop-form.form-index _ _ (omega arith) c.loop-form.invariant

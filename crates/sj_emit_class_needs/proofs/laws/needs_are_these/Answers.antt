use Rattle.std.proofs.Common.{refl}
use Rattle.sj_infos.specs.declared.forms.BodyForm.TheVariants as forms
use Rattle.sj_emit_class_needs.specs.declared.needs.ClassNeed.TheVariants as needs
use Rattle.sj_emit_class_needs.proofs.Told.{of_form, to_form, of_live, to_live, of_field, to_field}
use Rattle.sj_emit_class_needs.proofs.laws.needs_are_these.Goals as goal

pub returns : goal.returns
returns c = record {
  test = λ w known d. (of_form w known (needs.Test d) (forms.Test d) refl, to_form w known (needs.Test d) (forms.Test d) refl);
  cast = λ w known d. (of_form w known (needs.Cast d) (forms.Cast d) refl, to_form w known (needs.Cast d) (forms.Cast d) refl);
  base = λ w known d. (of_form w known (needs.Base d) (forms.Base d) refl, to_form w known (needs.Base d) (forms.Base d) refl);
  load = λ w known d. (of_form w known (needs.Load d) (forms.Load d) refl, to_form w known (needs.Load d) (forms.Load d) refl);
  store = λ w known d. (of_form w known (needs.Store d) (forms.Store d) refl, to_form w known (needs.Store d) (forms.Store d) refl);
  live = λ w known d. (of_live w known d, to_live w known d);
  field = λ w known d f. (of_field w known d f, to_field w known d f);
}

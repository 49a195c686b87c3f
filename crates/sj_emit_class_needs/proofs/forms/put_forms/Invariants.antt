use Rattle.std.proofs.Common.{◌≡◌, Some}
use Rattle.sj_baselink.specs.Steps.{Puts}
use Rattle.sj_baselink.proofs.Putting.{OfFirst}
use Rattle.sj_emit_class_needs.specs.Needs.{need_of}
use Rattle.sj_emit_class_needs.proofs.forms.put_forms.Given as goal

abbrev pub invariant-loop-form : goal.invariant-loop-form
invariant-loop-form l = Puts (OfFirst l.forms l.form-index (λ form n. need_of form ≡ Some n)) l.fn.needs.keys l.needs.keys

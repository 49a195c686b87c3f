use Rattle.std.proofs.Common.{◌≡◌}
use Rattle.sj_infos.specs.declared.forms.BodyForm.TheVariants.{Reflective}
use Rattle.sj_baselink.specs.Steps.{Puts}
use Rattle.sj_baselink.proofs.Putting.{OfFirst}
use Rattle.sj_baselink.proofs.reflective.put_reflective_among.Given as goal

abbrev pub invariant-loop-form : goal.invariant-loop-form
invariant-loop-form l = Puts (OfFirst l.forms l.form-index (λ form p. form ≡ Reflective p)) l.fn.names.keys l.names.keys

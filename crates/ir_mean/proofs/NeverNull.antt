-- Where null has no meaning any other value is given on.
use Rattle.std.proofs.Common.{◌≡◌, ◌⊎◌, inl, inr, refl}
use Rattle.ir_mean.specs.Meaning.{never_null}
use Rattle.ir_mean.specs.States.{Value, undefined, null, boolean, char, number, long, text, reference, Env, State, given}

pub null_or_given : (v : Value) → (v ≡ null) ⊎ ((env : Env) (s : State) → never_null v env s ≡ given v env s)
null_or_given null = inl refl
null_or_given undefined = inr (λ env s. refl)
null_or_given (boolean b) = inr (λ env s. refl)
null_or_given (char n) = inr (λ env s. refl)
null_or_given (number z) = inr (λ env s. refl)
null_or_given (long z) = inr (λ env s. refl)
null_or_given (text us) = inr (λ env s. refl)
null_or_given (reference a) = inr (λ env s. refl)

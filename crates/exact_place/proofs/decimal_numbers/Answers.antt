use Rattle.std.proofs.Common.{◌≡◌, Bool, true, false, not, refl}
use Rattle.exact_place.specs.Tokens.{is_digit}
use Rattle.exact_place.proofs.Tokens.{law_run}
use Rattle.exact_place.proofs.Words.{digits_token}
use Rattle.exact_place.proofs.decimal_numbers.Goals as goal

turned : (b : Bool) → not b ≡ true → b ≡ false
turned true e = absurd cc
turned false e = refl

pub returns : goal.returns
returns c = λ n limit nought big. law_run (λ c. not (is_digit c)) (digits_token nought limit (λ c. not (is_digit c)) (λ c e. turned (is_digit c) e) big)

-- The decimal numerals in the names of variables that hold operands.
use Rattle.std.specs.Prelude.{◌≡◌, ◌+◌, ℕ, zero, suc, List, [], ◌∷◌, map}
use Rattle.std.specs.Int.Digits.{digits_of}

-- the digits of a number of any size, `0` for zero
abbrev pub number_text : ℕ → List ℕ
number_text zero = 48 ∷ []
number_text (suc n) = map (λ d. 48 + d) (digits_of 10 (suc n))

-- two numbers with one numeral are the same
abbrev pub NumeralsDiffer : Type 0
NumeralsDiffer = (m n : ℕ) → number_text m ≡ number_text n → m ≡ n

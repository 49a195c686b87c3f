-- Results that are exact Numbers, or fit 32 bits again.
use Rattle.std.proofs.Common.{◌≡◌, ◌^◌, true, arith}
use Rattle.std.specs.Prelude.{ℤ, pos, negsuc, ◌+ℤ◌, ◌-ℤ◌, ◌≤ℤ◌, FitsSigned}
use Rattle.std.specs.Int.{w32}
use Rattle.std.proofs.lemmas.Int.{ints}
use Rattle.int_arithmetic.specs.Numbers.{is_exact}

exact : (z : ℤ) → (pos 0 -ℤ pos (2 ^ 40)) ≤ℤ z → z ≤ℤ pos (2 ^ 40) → is_exact z ≡ true
exact (pos n) h k = grind (arith, ints)
exact (negsuc n) h k = grind (arith, ints)

pub sum-exact : (a b : ℤ) → FitsSigned w32 a → FitsSigned w32 b → is_exact (a +ℤ b) ≡ true
sum-exact a b f g = exact (a +ℤ b) (omega (arith, ints)) (omega (arith, ints))

pub difference-exact : (a b : ℤ) → FitsSigned w32 a → FitsSigned w32 b → is_exact (a -ℤ b) ≡ true
difference-exact a b f g = exact (a -ℤ b) (omega (arith, ints)) (omega (arith, ints))

-- Signed arithmetic at 64 bits, on integers.
use Rattle.std.specs.Prelude.{ℕ, ◌/◌, ◌^◌, ℤ, pos, ◌+ℤ◌, ◌-ℤ◌, ◌*ℤ◌, bit_and, bit_or, bit_xor, int_div, int_rem}
use Rattle.std.specs.Int.{cast_signed, cast_unsigned, int_shr, w64}
use Rattle.int_arithmetic.specs.Modulo.{modulo}

-- the number from -2 ^ 63 to 2 ^ 63 - 1 that differs from z by a multiple of 2 ^ 64
abbrev pub wrapped : ℤ → ℤ
wrapped z = cast_signed w64 (modulo z (2 ^ 64))

abbrev pub sum : ℤ → ℤ → ℤ
sum a b = wrapped (a +ℤ b)

abbrev pub difference : ℤ → ℤ → ℤ
difference a b = wrapped (a -ℤ b)

abbrev pub product : ℤ → ℤ → ℤ
product a b = wrapped (a *ℤ b)

-- rounded toward zero; the least number over -1 wraps
abbrev pub quotient : ℤ → ℤ → ℤ
quotient a b = wrapped (int_div a b)

-- with the sign of the dividend
abbrev pub remainder : ℤ → ℤ → ℤ
remainder a b = int_rem a b

-- bit by bit, in two's complement
abbrev pub bits_or : ℤ → ℤ → ℤ
bits_or a b = cast_signed w64 (bit_or (cast_unsigned w64 a) (cast_unsigned w64 b))

abbrev pub bits_and : ℤ → ℤ → ℤ
bits_and a b = cast_signed w64 (bit_and (cast_unsigned w64 a) (cast_unsigned w64 b))

abbrev pub bits_xor : ℤ → ℤ → ℤ
bits_xor a b = cast_signed w64 (bit_xor (cast_unsigned w64 a) (cast_unsigned w64 b))

-- by how many places to shift: the low six bits
abbrev pub places : ℤ → ℕ
places b = modulo b 64

abbrev pub shifted_left : ℤ → ℤ → ℤ
shifted_left a b = wrapped (a *ℤ pos (2 ^ places b))

-- copies of the sign come in from the left
abbrev pub shifted_right : ℤ → ℤ → ℤ
shifted_right a b = int_shr a (places b)

-- zeros come in from the left
abbrev pub shifted_right_with_zeros : ℤ → ℤ → ℤ
shifted_right_with_zeros a b = cast_signed w64 (cast_unsigned w64 a / 2 ^ places b)

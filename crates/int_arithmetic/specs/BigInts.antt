-- The operators of ECMA-262, 11th edition (2020), on BigInts of at most 128 bits, one of which is for the sign.
use Rattle.std.specs.Prelude.{ℕ, zero, suc, ◌-◌, ◌^◌, min, Bool, ℤ, pos, negsuc, ◌+ℤ◌, ◌-ℤ◌, ◌*ℤ◌, nat_lt, bit_and, bit_or, bit_xor, int_div, int_rem, Option, Some, None, if◌then◌else◌}
use Rattle.std.specs.Int.{int_shr}
use Rattle.int_arithmetic.specs.Modulo.{modulo}

abbrev pub is_in_range : ℤ → Bool
is_in_range (pos n) = nat_lt n (2 ^ 127)
is_in_range (negsuc n) = nat_lt n (2 ^ 127)

-- a result, if it has no more bits
abbrev pub in_range : ℤ → Option ℤ
in_range z = if is_in_range z then Some z else None

-- n bits as an integer with a sign
abbrev pub with_sign : ℕ → ℕ → ℤ
with_sign n k = if nat_lt k (2 ^ (n - 1)) then pos k else (pos k -ℤ pos (2 ^ n))

-- 6.1.6.2.4, 6.1.6.2.7, 6.1.6.2.8
abbrev pub sum : ℤ → ℤ → Option ℤ
sum x y = in_range (x +ℤ y)

abbrev pub difference : ℤ → ℤ → Option ℤ
difference x y = in_range (x -ℤ y)

abbrev pub product : ℤ → ℤ → Option ℤ
product x y = in_range (x *ℤ y)

-- 6.1.6.2.5: rounded toward zero; division by zero is an error
abbrev pub quotient : ℤ → ℤ → Option ℤ
quotient x (pos zero) = None
quotient x y = in_range (int_div x y)

-- 6.1.6.2.6: with the sign of the dividend
abbrev pub remainder : ℤ → ℤ → Option ℤ
remainder x (pos zero) = None
remainder x y = in_range (int_rem x y)

-- 6.1.6.2.20 to 6.1.6.2.22: bit by bit, in two's complement
abbrev pub by_bits : (ℕ → ℕ → ℕ) → ℤ → ℤ → ℤ
by_bits f x y = with_sign 128 (f (modulo x (2 ^ 128)) (modulo y (2 ^ 128)))

abbrev pub and_of : ℤ → ℤ → ℤ
and_of = by_bits bit_and

abbrev pub or_of : ℤ → ℤ → ℤ
or_of = by_bits bit_or

abbrev pub xor_of : ℤ → ℤ → ℤ
xor_of = by_bits bit_xor

-- by n places to the left: only zero can be shifted by more than 128
abbrev pub up : ℤ → ℕ → Option ℤ
up (pos zero) n = Some (pos 0)
up x n = if nat_lt n 128 then in_range (x *ℤ pos (2 ^ n)) else None

-- by n places to the right, rounded down: all bits are gone behind 128
abbrev pub down : ℤ → ℕ → Option ℤ
down x n = Some (int_shr x (min n 128))

-- 6.1.6.2.9: by a negative count to the right
abbrev pub left_shift : ℤ → ℤ → Option ℤ
left_shift x (pos n) = up x n
left_shift x (negsuc n) = down x (suc n)

-- 6.1.6.2.10
abbrev pub right_shift : ℤ → ℤ → Option ℤ
right_shift x (pos n) = down x n
right_shift x (negsuc n) = up x (suc n)

-- `BigInt.asUintN` (20.2.2.2), `BigInt.asIntN` (20.2.2.1): more bits than there are change nothing but a sign
abbrev pub as_unsigned : ℕ → ℤ → Option ℤ
as_unsigned n (pos k) = Some (pos (if nat_lt n 128 then modulo (pos k) (2 ^ n) else k))
as_unsigned n (negsuc k) = if nat_lt n 128 then Some (pos (modulo (negsuc k) (2 ^ n))) else None

abbrev pub as_signed : ℕ → ℤ → ℤ
as_signed n x = if nat_lt n 128 then with_sign n (modulo x (2 ^ n)) else x

-- The operators of ECMA-262, 11th edition (2020), on Numbers that are whole.
use Rattle.std.specs.Prelude.{ℕ, zero, ◌*◌, ◌/◌, ◌%◌, ◌^◌, Bool, ℤ, pos, negsuc, ◌-ℤ◌, nat_lt, nat_le, bit_and, bit_or, bit_xor, int_div, int_rem, if◌then◌else◌}
use Rattle.std.specs.Int.{int_shr}
use Rattle.int_arithmetic.specs.Modulo.{modulo}

-- 7.1.7
abbrev pub to_uint32 : ℤ → ℕ
to_uint32 z = modulo z (2 ^ 32)

-- 32 bits as a Number with a sign: the last step of 7.1.6
abbrev pub with_sign : ℕ → ℤ
with_sign n = if nat_lt n (2 ^ 31) then pos n else (pos n -ℤ pos (2 ^ 32))

-- 7.1.6
abbrev pub to_int32 : ℤ → ℤ
to_int32 z = with_sign (to_uint32 z)

-- whole Numbers up to 2 ^ 53 in size are exact (6.1.6.1)
abbrev pub is_exact : ℤ → Bool
is_exact (pos n) = nat_le n (2 ^ 53)
is_exact (negsuc n) = nat_lt n (2 ^ 53)

-- 6.1.6.1.17 to 6.1.6.1.19: the operands' 32 bits, bit by bit
abbrev pub or_numbers : ℤ → ℤ → ℤ
or_numbers x y = with_sign (bit_or (to_uint32 x) (to_uint32 y))

abbrev pub and_numbers : ℤ → ℤ → ℤ
and_numbers x y = with_sign (bit_and (to_uint32 x) (to_uint32 y))

abbrev pub xor_numbers : ℤ → ℤ → ℤ
xor_numbers x y = with_sign (bit_xor (to_uint32 x) (to_uint32 y))

-- all but the five lowest bits of the right operand are masked out (6.1.6.1.9 to 6.1.6.1.11)
abbrev pub shift_count : ℤ → ℕ
shift_count y = to_uint32 y % 32

-- 6.1.6.1.9
abbrev pub left_shift : ℤ → ℤ → ℤ
left_shift x y = with_sign ((to_uint32 x * 2 ^ shift_count y) % 2 ^ 32)

-- 6.1.6.1.10: the most significant bit is propagated
abbrev pub signed_right_shift : ℤ → ℤ → ℤ
signed_right_shift x y = int_shr (to_int32 x) (shift_count y)

-- 6.1.6.1.11: vacated bits are filled with zero, and the result is unsigned
abbrev pub unsigned_right_shift : ℤ → ℤ → ℤ
unsigned_right_shift x y = pos (to_uint32 x / 2 ^ shift_count y)

-- `Math.imul` (20.3.2.19)
abbrev pub imul : ℤ → ℤ → ℤ
imul x y = with_sign ((to_uint32 x * to_uint32 y) % 2 ^ 32)

-- `(x / y) | 0` of whole Numbers (6.1.6.1.5): the quotient of exact Numbers, rounded as the standard rounds it, has the whole part of the
-- exact quotient; a quotient that isn't finite is 0 under `| 0` (7.1.6)
abbrev pub quotient_or_zero : ℤ → ℤ → ℤ
quotient_or_zero x (pos zero) = pos 0
quotient_or_zero x y = or_numbers (int_div x y) (pos 0)

-- `(x % y) | 0` of whole Numbers (6.1.6.1.6): the remainder has the dividend's sign, a negative zero is 0 under `| 0`, and so is NaN
abbrev pub remainder_or_zero : ℤ → ℤ → ℤ
remainder_or_zero x (pos zero) = pos 0
remainder_or_zero x y = or_numbers (int_rem x y) (pos 0)

-- The IR's operators, and what their templates compute.
use Rattle.std.proofs.Common.{◌≡◌, ℕ, zero, suc, ◌-◌, ◌*◌, ◌/◌, ◌%◌, ◌^◌, ◌<◌, ◌≤◌, Bool, true, false, cond, refl, sym, ap, ◌∙◌, arith}
use Rattle.std.specs.Prelude.{ℤ, pos, negsuc, ◌+ℤ◌, ◌-ℤ◌, ◌*ℤ◌, bit_and, bit_or, bit_xor, int_div, int_rem, nat_lt, FitsSigned, unsigned_abs, ◌≢◌}
use Rattle.std.specs.Int.{cast_signed, cast_unsigned, int_wrap, int_shr, w8, w16, w32}
use Rattle.std.proofs.lemmas.Int.{ints, wrapping_mul_is, wrapping_mul_onto, int_wrap-mul_left, rem_below, fits_signed_from_abs}
use Rattle.std.proofs.lemmas.Nat.{or_lt, xor_lt, and_le_l}
use Rattle.std.proofs.Math.IntN.{*ℤ_comm}
use Rattle.std.proofs.Math.Nat.{div-le_self, mul_comm}
use Rattle.std.proofs.Math.Pow.{pow-lt}
use Rattle.int_arithmetic.specs.Signed.{modulo, wrapped, wrapped_to_byte, wrapped_to_short, sum, difference, product, quotient, remainder, bits_or, bits_and, bits_xor, places, shifted_left, shifted_right, shifted_right_with_zeros}
use Rattle.int_arithmetic.specs.Numbers.{to_uint32, with_sign, to_int32, or_numbers, and_numbers, xor_numbers, shift_count, left_shift, signed_right_shift, unsigned_right_shift, imul, quotient_or_zero, remainder_or_zero}
use Rattle.int_arithmetic.proofs.Words.{uint-is, sign-is, uint-below, wrapped-is, wrapped-same, int32-same, or_zero-is}

pub sum-is : (a b : ℤ) → or_numbers (a +ℤ b) (pos 0) ≡ sum a b
sum-is a b = or_zero-is (a +ℤ b)

pub difference-is : (a b : ℤ) → or_numbers (a -ℤ b) (pos 0) ≡ difference a b
difference-is a b = or_zero-is (a -ℤ b)

pub product-is : (a b : ℤ) → FitsSigned w32 a → FitsSigned w32 b → imul a b ≡ product a b
product-is a b f g = ap (λ (n : ℕ). with_sign ((n * to_uint32 b) % 2 ^ 32)) (uint-is a f) ∙ ap (λ (n : ℕ). with_sign ((cast_unsigned w32 a * n) % 2 ^ 32)) (uint-is b g) ∙ sign-is ((cast_unsigned w32 a * cast_unsigned w32 b) % 2 ^ 32) (below (cast_unsigned w32 a * cast_unsigned w32 b)) ∙ wrapping_mul_is w32 a b f g ∙ wrapped-is (a *ℤ b)
  where
    below : (n : ℕ) → n % 2 ^ 32 < 2 ^ 32
    below n = omega arith

pub quotient-is : (a b : ℤ) → b ≢ pos 0 → quotient_or_zero a b ≡ quotient a b
quotient-is a (pos zero) h = absurd (h refl)
quotient-is a (pos (suc n)) h = or_zero-is (int_div a (pos (suc n)))
quotient-is a (negsuc n) h = or_zero-is (int_div a (negsuc n))

remainder_fits : (a b : ℤ) → FitsSigned w32 b → 0 < unsigned_abs b → FitsSigned w32 (int_rem a b)
remainder_fits a b g h = let r : unsigned_abs (int_rem a b) < unsigned_abs b = rem_below a b h in let k : unsigned_abs b ≤ 2 ^ 31 = size b g in fits_signed_from_abs w32 (int_rem a b) (omega arith)
  where
    size : (z : ℤ) → FitsSigned w32 z → unsigned_abs z ≤ 2 ^ 31
    size (pos n) f = let h : n < 2 ^ 31 = f.sfits in omega arith
    size (negsuc n) f = let h : n < 2 ^ 31 = f.sfits in omega arith

pub remainder-is : (a b : ℤ) → FitsSigned w32 b → b ≢ pos 0 → remainder_or_zero a b ≡ remainder a b
remainder-is a (pos zero) g h = absurd (h refl)
remainder-is a (pos (suc n)) g h = or_zero-is (int_rem a (pos (suc n))) ∙ wrapped-same (int_rem a (pos (suc n))) (remainder_fits a (pos (suc n)) g (omega arith))
remainder-is a (negsuc n) g h = or_zero-is (int_rem a (negsuc n)) ∙ wrapped-same (int_rem a (negsuc n)) (remainder_fits a (negsuc n) g (omega arith))

pub or-is : (a b : ℤ) → FitsSigned w32 a → FitsSigned w32 b → or_numbers a b ≡ bits_or a b
or-is a b f g = sign-is (bit_or (to_uint32 a) (to_uint32 b)) (or_lt 32 (to_uint32 a) (to_uint32 b) (uint-below a) (uint-below b)) ∙ (λ i. cast_signed w32 (bit_or (uint-is a f i) (uint-is b g i)))

and_below : (m n : ℕ) → m < 2 ^ 32 → bit_and m n < 2 ^ 32
and_below m n h = let k : bit_and m n ≤ m = and_le_l m n in omega arith

pub and-is : (a b : ℤ) → FitsSigned w32 a → FitsSigned w32 b → and_numbers a b ≡ bits_and a b
and-is a b f g = sign-is (bit_and (to_uint32 a) (to_uint32 b)) (and_below (to_uint32 a) (to_uint32 b) (uint-below a)) ∙ (λ i. cast_signed w32 (bit_and (uint-is a f i) (uint-is b g i)))

pub xor-is : (a b : ℤ) → FitsSigned w32 a → FitsSigned w32 b → xor_numbers a b ≡ bits_xor a b
xor-is a b f g = sign-is (bit_xor (to_uint32 a) (to_uint32 b)) (xor_lt 32 (to_uint32 a) (to_uint32 b) (uint-below a) (uint-below b)) ∙ (λ i. cast_signed w32 (bit_xor (uint-is a f i) (uint-is b g i)))

pub count-is : (b : ℤ) → shift_count b ≡ places b
count-is (pos n) = omega arith
count-is (negsuc n) = omega arith

pub right_shift-is : (a b : ℤ) → FitsSigned w32 a → signed_right_shift a b ≡ shifted_right a b
right_shift-is a b f = λ i. int_shr (int32-same a f i) (count-is b i)

quotient_below : (m n : ℕ) → m < 2 ^ 32 → m / n < 2 ^ 32
quotient_below m n h = let k : m / n ≤ m = div-le_self m n in omega arith

pub zero_shift-is : (a b : ℤ) → FitsSigned w32 a → or_numbers (unsigned_right_shift a b) (pos 0) ≡ shifted_right_with_zeros a b
zero_shift-is a b f = or_zero-is (pos (to_uint32 a / 2 ^ shift_count b)) ∙ ap (cast_signed w32) (small (to_uint32 a / 2 ^ shift_count b) (quotient_below (to_uint32 a) (2 ^ shift_count b) (uint-below a))) ∙ (λ i. cast_signed w32 (uint-is a f i / 2 ^ count-is b i))
  where
    small : (n : ℕ) → n < 2 ^ 32 → n % 2 ^ 32 ≡ n
    small n h = omega arith

rest_below : (n : ℕ) → n % 2 ^ 32 < 2 ^ 32
rest_below n = omega arith

places_below : (b : ℤ) → places b < 32
places_below (pos n) = omega arith
places_below (negsuc n) = omega arith

power_below : (b : ℤ) → 2 ^ places b < 2 ^ 32
power_below b = pow-lt {i = places b} {j = 32} (places_below b)

small : (m : ℕ) → m < 2 ^ 32 → cast_signed w32 m ≡ int_wrap w32 (pos m)
small m h = ap (cast_signed w32) (here m h) ∙ sym (wrapped-is (pos m))
  where
    here : (m : ℕ) → m < 2 ^ 32 → m ≡ m % 2 ^ 32
    here m h = omega arith

pub left_shift-is : (a b : ℤ) → FitsSigned w32 a → left_shift a b ≡ shifted_left a b
left_shift-is a b f = ap (λ (k : ℕ). with_sign ((to_uint32 a * 2 ^ k) % 2 ^ 32)) (count-is b) ∙ shift (2 ^ places b) (power_below b)
  where
    shift : (m : ℕ) → m < 2 ^ 32 → with_sign ((to_uint32 a * m) % 2 ^ 32) ≡ wrapped (a *ℤ pos m)
    shift m h = sign-is ((to_uint32 a * m) % 2 ^ 32) (rest_below (to_uint32 a * m)) ∙ ap (λ (n : ℕ). cast_signed w32 (n % 2 ^ 32)) (mul_comm (to_uint32 a) m) ∙ ap (λ (n : ℕ). cast_signed w32 ((m * n) % 2 ^ 32)) (uint-is a f) ∙ wrapping_mul_onto w32 m a h f ∙ ap (λ (z : ℤ). int_wrap w32 (z *ℤ a)) (small m h) ∙ int_wrap-mul_left w32 (pos m) a ∙ ap (int_wrap w32) (*ℤ_comm (pos m) a) ∙ wrapped-is (a *ℤ pos m)

low_byte : (a : ℤ) → (to_uint32 a * 2 ^ 24) % 2 ^ 32 ≡ modulo a 256 * 16777216
low_byte (pos n) = omega arith
low_byte (negsuc n) = omega arith

low_short : (a : ℤ) → (to_uint32 a * 2 ^ 16) % 2 ^ 32 ≡ modulo a 65536 * 65536
low_short (pos n) = omega arith
low_short (negsuc n) = omega arith

byte_below : (a : ℤ) → modulo a 256 < 256
byte_below (pos n) = omega arith
byte_below (negsuc n) = omega arith

short_below : (a : ℤ) → modulo a 65536 < 65536
short_below (pos n) = omega arith
short_below (negsuc n) = omega arith

byte_back : (m : ℕ) → m < 256 → int_shr (to_int32 (with_sign (m * 16777216))) 24 ≡ cast_signed w8 m
byte_back m h = go (nat_lt m 128) refl
  where
    signed : (b : Bool) → nat_lt m 128 ≡ b → with_sign (m * 16777216) ≡ cond b (pos (m * 16777216)) (negsuc (4294967295 - m * 16777216))
    signed true e = grind (arith, ints)
    signed false e = grind (arith, ints)

    back : (b : Bool) → nat_lt m 128 ≡ b → int_shr (cond b (pos (m * 16777216)) (negsuc (4294967295 - m * 16777216))) 24 ≡ cast_signed w8 m
    back true e = grind (arith, ints)
    back false e = grind (arith, ints)

    fits : (b : Bool) → nat_lt m 128 ≡ b → FitsSigned w32 (cond b (pos (m * 16777216)) (negsuc (4294967295 - m * 16777216)))
    fits true e = record { sfits = grind arith }
    fits false e = record { sfits = grind arith }

    go : (b : Bool) → nat_lt m 128 ≡ b → int_shr (to_int32 (with_sign (m * 16777216))) 24 ≡ cast_signed w8 m
    go b e = ap (λ (z : ℤ). int_shr (to_int32 z) 24) (signed b e) ∙ ap (λ (z : ℤ). int_shr z 24) (int32-same (cond b (pos (m * 16777216)) (negsuc (4294967295 - m * 16777216))) (fits b e)) ∙ back b e

short_back : (m : ℕ) → m < 65536 → int_shr (to_int32 (with_sign (m * 65536))) 16 ≡ cast_signed w16 m
short_back m h = go (nat_lt m 32768) refl
  where
    signed : (b : Bool) → nat_lt m 32768 ≡ b → with_sign (m * 65536) ≡ cond b (pos (m * 65536)) (negsuc (4294967295 - m * 65536))
    signed true e = grind (arith, ints)
    signed false e = grind (arith, ints)

    back : (b : Bool) → nat_lt m 32768 ≡ b → int_shr (cond b (pos (m * 65536)) (negsuc (4294967295 - m * 65536))) 16 ≡ cast_signed w16 m
    back true e = grind (arith, ints)
    back false e = grind (arith, ints)

    fits : (b : Bool) → nat_lt m 32768 ≡ b → FitsSigned w32 (cond b (pos (m * 65536)) (negsuc (4294967295 - m * 65536)))
    fits true e = record { sfits = grind arith }
    fits false e = record { sfits = grind arith }

    go : (b : Bool) → nat_lt m 32768 ≡ b → int_shr (to_int32 (with_sign (m * 65536))) 16 ≡ cast_signed w16 m
    go b e = ap (λ (z : ℤ). int_shr (to_int32 z) 16) (signed b e) ∙ ap (λ (z : ℤ). int_shr z 16) (int32-same (cond b (pos (m * 65536)) (negsuc (4294967295 - m * 65536))) (fits b e)) ∙ back b e

pub to_byte-is : (a : ℤ) → signed_right_shift (left_shift a (pos 24)) (pos 24) ≡ wrapped_to_byte a
to_byte-is a = ap (λ (n : ℕ). int_shr (to_int32 (with_sign n)) 24) (low_byte a) ∙ byte_back (modulo a 256) (byte_below a)

pub to_short-is : (a : ℤ) → signed_right_shift (left_shift a (pos 16)) (pos 16) ≡ wrapped_to_short a
to_short-is a = ap (λ (n : ℕ). int_shr (to_int32 (with_sign n)) 16) (low_short a) ∙ short_back (modulo a 65536) (short_below a)

-- The IR's operators on longs, and what their templates compute on BigInts.
use Rattle.std.proofs.Common.{◌≡◌, ℕ, zero, suc, ◌-◌, ◌*◌, ◌/◌, ◌%◌, ◌^◌, ◌<◌, ◌≤◌, Bool, true, false, Some, Option, refl, sym, ap, ◌∙◌, subst, arith, if◌then◌else◌}
use Rattle.std.specs.Prelude.{ℤ, pos, negsuc, ◌+ℤ◌, ◌-ℤ◌, ◌*ℤ◌, bit_and, bit_or, bit_xor, int_div, int_rem, min, nat_lt, FitsSigned, unsigned_abs, ◌≢◌}
use Rattle.std.specs.Int.{cast_signed, cast_unsigned, int_shr, w32, w64}
use Rattle.std.specs.Int.Signed.{mag_rem, mag_shr}
use Rattle.std.proofs.lemmas.Int.{ints, to_z-of_z, unsigned_abs-mul}
use Rattle.std.proofs.lemmas.Nat.{and_mask, and_shr, or_shr, xor_shr, and_mod, or_mod, xor_mod, and_le_l, or_lt, xor_lt}
use Rattle.std.proofs.Math.Nat.{div-le_self, mul-le-mul, zero-mul}
use Rattle.std.proofs.Math.Pow.{pow_mono}
use Rattle.int_arithmetic.specs.BigInts as bigs
use Rattle.int_arithmetic.specs.Longs as longs
use Rattle.int_arithmetic.specs.Modulo.{modulo}
use Rattle.int_arithmetic.specs.Numbers.{to_uint32, and_numbers}
use Rattle.int_arithmetic.specs.Signed as signed
use Rattle.int_arithmetic.proofs.Words.{sign-is}

-- the 64 bits of a long
pub bits-are : (z : ℤ) → FitsSigned w64 z → modulo z (2 ^ 64) ≡ cast_unsigned w64 z
bits-are (pos n) f = let h : n < 2 ^ 63 = f.sfits in omega arith
bits-are (negsuc n) f = let h : n < 2 ^ 63 = f.sfits in omega arith

pub bits-below : (z : ℤ) → modulo z (2 ^ 64) < 2 ^ 64
bits-below (pos n) = omega arith
bits-below (negsuc n) = omega arith

word-below : (z : ℤ) → FitsSigned w64 z → cast_unsigned w64 z < 2 ^ 64
word-below z f = subst (λ (n : ℕ). n < 2 ^ 64) (bits-are z f) (bits-below z)

-- 64 bits as a number with a sign
signed_go : (n : ℕ) (b : Bool) → nat_lt n (2 ^ 63) ≡ b → n < 2 ^ 64 → (if b then pos n else (pos n -ℤ pos (2 ^ 64))) ≡ cast_signed w64 n
signed_go n true e h = grind (arith, ints)
signed_go n false e h = grind (arith, ints)

pub signed-is : (n : ℕ) → n < 2 ^ 64 → bigs.with_sign 64 n ≡ cast_signed w64 n
signed-is n h = signed_go n (nat_lt n (2 ^ 63)) refl h

fits_go : (n : ℕ) (b : Bool) → nat_lt n (2 ^ 63) ≡ b → n < 2 ^ 64 → FitsSigned w64 (if b then pos n else negsuc (2 ^ 64 - suc n))
fits_go n true e h = record { sfits = grind arith }
fits_go n false e h = record { sfits = grind arith }

pub signed-fits : (n : ℕ) → n < 2 ^ 64 → FitsSigned w64 (cast_signed w64 n)
signed-fits n h = fits_go n (nat_lt n (2 ^ 63)) refl h

-- `BigInt.asIntN(64, z)`
pub cut-is : (z : ℤ) → bigs.as_signed 64 z ≡ longs.wrapped z
cut-is z = signed-is (modulo z (2 ^ 64)) (bits-below z)

pub wrapped-fits : (z : ℤ) → FitsSigned w64 (longs.wrapped z)
wrapped-fits z = signed-fits (modulo z (2 ^ 64)) (bits-below z)

pub wrapped-same : (z : ℤ) → FitsSigned w64 z → longs.wrapped z ≡ z
wrapped-same z f = ap (cast_signed w64) (bits-are z f) ∙ to_z-of_z w64 z f

-- results that a BigInt has room for
in_range_go : (z : ℤ) → unsigned_abs z < 2 ^ 127 → bigs.is_in_range z ≡ true
in_range_go (pos n) h = grind arith
in_range_go (negsuc n) h = grind arith

pub in_range-is : (z : ℤ) → unsigned_abs z < 2 ^ 127 → bigs.in_range z ≡ Some z
in_range-is z h = ap (λ (b : Bool). if b then Some z else Option.None) (in_range_go z h)

size : (z : ℤ) → FitsSigned w64 z → unsigned_abs z ≤ 2 ^ 63
size (pos n) f = let h : n < 2 ^ 63 = f.sfits in omega arith
size (negsuc n) f = let h : n < 2 ^ 63 = f.sfits in omega arith

sum_size : (a b : ℤ) → FitsSigned w64 a → FitsSigned w64 b → unsigned_abs (a +ℤ b) < 2 ^ 127
sum_size a b f g = omega (arith, ints)

pub sum-is : (a b : ℤ) → FitsSigned w64 a → FitsSigned w64 b → bigs.sum a b ≡ Some (a +ℤ b)
sum-is a b f g = in_range-is (a +ℤ b) (sum_size a b f g)

difference_size : (a b : ℤ) → FitsSigned w64 a → FitsSigned w64 b → unsigned_abs (a -ℤ b) < 2 ^ 127
difference_size a b f g = omega (arith, ints)

pub difference-is : (a b : ℤ) → FitsSigned w64 a → FitsSigned w64 b → bigs.difference a b ≡ Some (a -ℤ b)
difference-is a b f g = in_range-is (a -ℤ b) (difference_size a b f g)

product_size : (a b : ℤ) → unsigned_abs a ≤ 2 ^ 63 → unsigned_abs b ≤ 2 ^ 63 → unsigned_abs (a *ℤ b) < 2 ^ 127
product_size a b h k = subst (λ (n : ℕ). n < 2 ^ 127) (sym (unsigned_abs-mul a b)) (let m : unsigned_abs a * unsigned_abs b ≤ 2 ^ 63 * 2 ^ 63 = mul-le-mul h k in omega arith)

pub product-is : (a b : ℤ) → FitsSigned w64 a → FitsSigned w64 b → bigs.product a b ≡ Some (a *ℤ b)
product-is a b f g = in_range-is (a *ℤ b) (product_size a b (size a f) (size b g))

quotient_size : (a b : ℤ) → FitsSigned w64 a → unsigned_abs (int_div a b) < 2 ^ 127
quotient_size (pos a) (pos b) f = let h : a / b ≤ a = div-le_self a b in let k : a < 2 ^ 63 = f.sfits in grind arith
quotient_size (pos a) (negsuc b) f = let h : a / suc b ≤ a = div-le_self a (suc b) in let k : a < 2 ^ 63 = f.sfits in grind (arith, ints)
quotient_size (negsuc a) (pos b) f = let h : suc a / b ≤ suc a = div-le_self (suc a) b in let k : a < 2 ^ 63 = f.sfits in grind (arith, ints)
quotient_size (negsuc a) (negsuc b) f = let h : suc a / suc b ≤ suc a = div-le_self (suc a) (suc b) in let k : a < 2 ^ 63 = f.sfits in grind arith

pub quotient-is : (a b : ℤ) → FitsSigned w64 a → b ≢ pos 0 → bigs.quotient a b ≡ Some (int_div a b)
quotient-is a (pos zero) f h = absurd (h refl)
quotient-is a (pos (suc n)) f h = in_range-is (int_div a (pos (suc n))) (quotient_size a (pos (suc n)) f)
quotient-is a (negsuc n) f h = in_range-is (int_div a (negsuc n)) (quotient_size a (negsuc n) f)

pub remainder-fits : (a b : ℤ) → FitsSigned w64 a → FitsSigned w64 (longs.remainder a b)
remainder-fits a b f = let h = mag_rem a b in let k = f.sfits in record { sfits = omega arith }

fits_in_range : (z : ℤ) → FitsSigned w64 z → bigs.in_range z ≡ Some z
fits_in_range z f = in_range-is z (let h : unsigned_abs z ≤ 2 ^ 63 = size z f in omega arith)

pub in_range-fits : (z : ℤ) → FitsSigned w64 z → bigs.is_in_range z ≡ true
in_range-fits z f = in_range_go z (let h : unsigned_abs z ≤ 2 ^ 63 = size z f in omega arith)

pub remainder-is : (a b : ℤ) → FitsSigned w64 a → b ≢ pos 0 → bigs.remainder a b ≡ Some (longs.remainder a b)
remainder-is a (pos zero) f h = absurd (h refl)
remainder-is a (pos (suc n)) f h = fits_in_range (int_rem a (pos (suc n))) (remainder-fits a (pos (suc n)) f)
remainder-is a (negsuc n) f h = fits_in_range (int_rem a (negsuc n)) (remainder-fits a (negsuc n) f)

-- the upper 64 of the 128 bits of a long are copies of its sign
abbrev is_below_zero : ℤ → Bool
is_below_zero (pos n) = false
is_below_zero (negsuc n) = true

abbrev upper : Bool → ℕ
upper true = 18446744073709551615
upper false = 0

abbrev top : Bool → ℕ
top true = 1
top false = 0

upper-is : (z : ℤ) → FitsSigned w64 z → modulo z (2 ^ 128) / 2 ^ 64 ≡ upper (is_below_zero z)
upper-is (pos n) f = let h : n < 2 ^ 63 = f.sfits in omega arith
upper-is (negsuc n) f = let h : n < 2 ^ 63 = f.sfits in omega arith

lower-is : (z : ℤ) → FitsSigned w64 z → modulo z (2 ^ 128) % 2 ^ 64 ≡ cast_unsigned w64 z
lower-is (pos n) f = let h : n < 2 ^ 63 = f.sfits in omega arith
lower-is (negsuc n) f = let h : n < 2 ^ 63 = f.sfits in omega arith

top-is : (z : ℤ) → FitsSigned w64 z → cast_unsigned w64 z / 2 ^ 63 ≡ top (is_below_zero z)
top-is (pos n) f = let h : n < 2 ^ 63 = f.sfits in omega arith
top-is (negsuc n) f = let h : n < 2 ^ 63 = f.sfits in omega arith

-- 128 bits of which the upper 65 are the same
extended_go : (r l : ℕ) (s b c : Bool) → nat_lt r (2 ^ 127) ≡ b → nat_lt l (2 ^ 63) ≡ c → r / 2 ^ 64 ≡ upper s → r % 2 ^ 64 ≡ l → l / 2 ^ 63 ≡ top s → (if b then pos r else (pos r -ℤ pos (2 ^ 128))) ≡ (if c then pos l else negsuc (2 ^ 64 - suc l))
extended_go r l false true true e e' h k t = ap pos (omega arith)
extended_go r l false true false e e' h k t = absurd (grind arith)
extended_go r l false false c e e' h k t = absurd (grind arith)
extended_go r l true true c e e' h k t = absurd (grind arith)
extended_go r l true false true e e' h k t = absurd (grind arith)
extended_go r l true false false e e' h k t = grind (arith, ints)

extended : (r l : ℕ) (s : Bool) → r / 2 ^ 64 ≡ upper s → r % 2 ^ 64 ≡ l → l / 2 ^ 63 ≡ top s → bigs.with_sign 128 r ≡ cast_signed w64 l
extended r l s h k t = extended_go r l s (nat_lt r (2 ^ 127)) (nat_lt l (2 ^ 63)) refl refl h k t

-- an operation bit by bit on two longs: on 128 bits and on 64
module _ (f : ℕ → ℕ → ℕ) (on : Bool → Bool → Bool) (shr : (a b k : ℕ) → f a b / 2 ^ k ≡ f (a / 2 ^ k) (b / 2 ^ k)) (rest : (a b k : ℕ) → f a b % 2 ^ k ≡ f (a % 2 ^ k) (b % 2 ^ k)) (uppers : (s t : Bool) → f (upper s) (upper t) ≡ upper (on s t)) (tops : (s t : Bool) → f (top s) (top t) ≡ top (on s t)) where
  by_bits-is : (a b : ℤ) → FitsSigned w64 a → FitsSigned w64 b → bigs.by_bits f a b ≡ cast_signed w64 (f (cast_unsigned w64 a) (cast_unsigned w64 b))
  by_bits-is a b g h = extended (f (modulo a (2 ^ 128)) (modulo b (2 ^ 128))) (f (cast_unsigned w64 a) (cast_unsigned w64 b)) (on (is_below_zero a) (is_below_zero b)) (shr (modulo a (2 ^ 128)) (modulo b (2 ^ 128)) 64 ∙ (λ i. f (upper-is a g i) (upper-is b h i)) ∙ uppers (is_below_zero a) (is_below_zero b)) (rest (modulo a (2 ^ 128)) (modulo b (2 ^ 128)) 64 ∙ (λ i. f (lower-is a g i) (lower-is b h i))) (shr (cast_unsigned w64 a) (cast_unsigned w64 b) 63 ∙ (λ i. f (top-is a g i) (top-is b h i)) ∙ tops (is_below_zero a) (is_below_zero b))

abbrev and_on : Bool → Bool → Bool
and_on true b = b
and_on false b = false

abbrev or_on : Bool → Bool → Bool
or_on true b = true
or_on false b = b

abbrev xor_on : Bool → Bool → Bool
xor_on true true = false
xor_on true false = true
xor_on false b = b

and_uppers : (s t : Bool) → bit_and (upper s) (upper t) ≡ upper (and_on s t)
and_uppers true true = refl
and_uppers true false = refl
and_uppers false t = refl

and_tops : (s t : Bool) → bit_and (top s) (top t) ≡ top (and_on s t)
and_tops true true = refl
and_tops true false = refl
and_tops false t = refl

or_uppers : (s t : Bool) → bit_or (upper s) (upper t) ≡ upper (or_on s t)
or_uppers true true = refl
or_uppers true false = refl
or_uppers false t = refl

or_tops : (s t : Bool) → bit_or (top s) (top t) ≡ top (or_on s t)
or_tops true true = refl
or_tops true false = refl
or_tops false t = refl

xor_uppers : (s t : Bool) → bit_xor (upper s) (upper t) ≡ upper (xor_on s t)
xor_uppers true true = refl
xor_uppers true false = refl
xor_uppers false t = refl

xor_tops : (s t : Bool) → bit_xor (top s) (top t) ≡ top (xor_on s t)
xor_tops true true = refl
xor_tops true false = refl
xor_tops false t = refl

pub and-is : (a b : ℤ) → FitsSigned w64 a → FitsSigned w64 b → bigs.and_of a b ≡ longs.bits_and a b
and-is = by_bits-is bit_and and_on and_shr and_mod and_uppers and_tops

pub or-is : (a b : ℤ) → FitsSigned w64 a → FitsSigned w64 b → bigs.or_of a b ≡ longs.bits_or a b
or-is = by_bits-is bit_or or_on or_shr or_mod or_uppers or_tops

pub xor-is : (a b : ℤ) → FitsSigned w64 a → FitsSigned w64 b → bigs.xor_of a b ≡ longs.bits_xor a b
xor-is = by_bits-is bit_xor xor_on xor_shr xor_mod xor_uppers xor_tops

pub or-fits : (a b : ℤ) → FitsSigned w64 a → FitsSigned w64 b → FitsSigned w64 (longs.bits_or a b)
or-fits a b f g = signed-fits (bit_or (cast_unsigned w64 a) (cast_unsigned w64 b)) (or_lt 64 (cast_unsigned w64 a) (cast_unsigned w64 b) (word-below a f) (word-below b g))

pub and-fits : (a b : ℤ) → FitsSigned w64 a → FitsSigned w64 b → FitsSigned w64 (longs.bits_and a b)
and-fits a b f g = signed-fits (bit_and (cast_unsigned w64 a) (cast_unsigned w64 b)) (let h : bit_and (cast_unsigned w64 a) (cast_unsigned w64 b) ≤ cast_unsigned w64 a = and_le_l (cast_unsigned w64 a) (cast_unsigned w64 b) in let k : cast_unsigned w64 a < 2 ^ 64 = word-below a f in omega arith)

pub xor-fits : (a b : ℤ) → FitsSigned w64 a → FitsSigned w64 b → FitsSigned w64 (longs.bits_xor a b)
xor-fits a b f g = signed-fits (bit_xor (cast_unsigned w64 a) (cast_unsigned w64 b)) (xor_lt 64 (cast_unsigned w64 a) (cast_unsigned w64 b) (word-below a f) (word-below b g))

-- `(b & 63)`: the count of a shift
count_go : (b : ℤ) → to_uint32 b % 2 ^ 6 ≡ longs.places b
count_go (pos n) = omega arith
count_go (negsuc n) = omega arith

pub places-below : (b : ℤ) → longs.places b < 64
places-below (pos n) = omega arith
places-below (negsuc n) = omega arith

small_sign : (n : ℕ) → n < 2 ^ 31 → bigs.with_sign 32 n ≡ pos n
small_sign n h = grind arith

pub count-is : (b : ℤ) → and_numbers b (pos 63) ≡ pos (longs.places b)
count-is b = ap (λ (n : ℕ). bigs.with_sign 32 n) (and_mask (to_uint32 b) 6 ∙ count_go b) ∙ small_sign (longs.places b) (let h : longs.places b < 64 = places-below b in omega arith)

-- shifts by that count
power_size : (n : ℕ) → n < 64 → 2 ^ n ≤ 2 ^ 63
power_size n h = pow_mono {j = 63} (omega arith)

nat_lt_true : (n : ℕ) → n < 64 → nat_lt n 128 ≡ true
nat_lt_true n h = grind arith

up_go : (a : ℤ) (n : ℕ) → n < 64 → unsigned_abs (a *ℤ pos (2 ^ n)) < 2 ^ 127 → bigs.up a n ≡ Some (a *ℤ pos (2 ^ n))
up_go (pos zero) n h k = ap (λ (m : ℕ). Some (pos m)) (sym (zero-mul (2 ^ n)))
up_go (pos (suc a)) n h k = ap (λ (b : Bool). if b then bigs.in_range (pos (suc a) *ℤ pos (2 ^ n)) else Option.None) (nat_lt_true n h) ∙ in_range-is (pos (suc a) *ℤ pos (2 ^ n)) k
up_go (negsuc a) n h k = ap (λ (b : Bool). if b then bigs.in_range (negsuc a *ℤ pos (2 ^ n)) else Option.None) (nat_lt_true n h) ∙ in_range-is (negsuc a *ℤ pos (2 ^ n)) k

pub left_shift-is : (a b : ℤ) → FitsSigned w64 a → bigs.left_shift a (pos (longs.places b)) ≡ Some (a *ℤ pos (2 ^ longs.places b))
left_shift-is a b f = up_go a (longs.places b) (places-below b) (product_size a (pos (2 ^ longs.places b)) (size a f) (power_size (longs.places b) (places-below b)))

shift_min : (n : ℕ) → n < 64 → min n 128 ≡ n
shift_min n h = grind arith

pub right_shift-is : (a b : ℤ) → bigs.right_shift a (pos (longs.places b)) ≡ Some (longs.shifted_right a b)
right_shift-is a b = ap (λ (n : ℕ). Some (int_shr a n)) (shift_min (longs.places b) (places-below b))

pub shifted_right-fits : (a b : ℤ) → FitsSigned w64 a → FitsSigned w64 (longs.shifted_right a b)
shifted_right-fits a b f = let h = mag_shr a (2 ^ longs.places b) in let k = f.sfits in record { sfits = omega arith }

-- `BigInt.asUintN(64, a)`, and what is left of it when it is shifted
pub unsigned-is : (a : ℤ) → FitsSigned w64 a → bigs.as_unsigned 64 a ≡ Some (pos (cast_unsigned w64 a))
unsigned-is (pos n) f = ap (λ (m : ℕ). Some (pos m)) (bits-are (pos n) f)
unsigned-is (negsuc n) f = ap (λ (m : ℕ). Some (pos m)) (bits-are (negsuc n) f)

shifted_below : (a b : ℤ) → FitsSigned w64 a → cast_unsigned w64 a / 2 ^ longs.places b < 2 ^ 64
shifted_below a b f = let h : cast_unsigned w64 a / 2 ^ longs.places b ≤ cast_unsigned w64 a = div-le_self (cast_unsigned w64 a) (2 ^ longs.places b) in let k : cast_unsigned w64 a < 2 ^ 64 = word-below a f in omega arith

rest_same : (n : ℕ) → n < 2 ^ 64 → n % 2 ^ 64 ≡ n
rest_same n h = omega arith

pub zero_shift-is : (a b : ℤ) → FitsSigned w64 a → bigs.as_signed 64 (pos (cast_unsigned w64 a / 2 ^ longs.places b)) ≡ longs.shifted_right_with_zeros a b
zero_shift-is a b f = cut-is (pos (cast_unsigned w64 a / 2 ^ longs.places b)) ∙ ap (cast_signed w64) (rest_same (cast_unsigned w64 a / 2 ^ longs.places b) (shifted_below a b f))

pub zero_shift-fits : (a b : ℤ) → FitsSigned w64 a → FitsSigned w64 (longs.shifted_right_with_zeros a b)
zero_shift-fits a b f = signed-fits (cast_unsigned w64 a / 2 ^ longs.places b) (shifted_below a b f)

-- `BigInt(a)` and `Number(BigInt.asIntN(32, a))`
pub int_is_long : (a : ℤ) → FitsSigned w32 a → FitsSigned w64 a
int_is_long a f = let k = f.sfits in record { sfits = omega arith }

uint_below : (z : ℤ) → modulo z (2 ^ 32) < 2 ^ 32
uint_below (pos n) = omega arith
uint_below (negsuc n) = omega arith

pub to_int-is : (a : ℤ) → bigs.as_signed 32 a ≡ signed.wrapped a
to_int-is a = sign-is (modulo a (2 ^ 32)) (uint_below a)

-- `(a & 65535)`
unit_go : (a : ℤ) → to_uint32 a % 2 ^ 16 ≡ modulo a (2 ^ 16)
unit_go (pos n) = omega arith
unit_go (negsuc n) = omega arith

pub unit-below : (a : ℤ) → modulo a (2 ^ 16) < 2 ^ 16
unit-below (pos n) = omega arith
unit-below (negsuc n) = omega arith

pub to_unit-is : (a : ℤ) → and_numbers a (pos 65535) ≡ pos (modulo a (2 ^ 16))
to_unit-is a = ap (λ (n : ℕ). bigs.with_sign 32 n) (and_mask (to_uint32 a) 16 ∙ unit_go a) ∙ small_sign (modulo a (2 ^ 16)) (let h : modulo a (2 ^ 16) < 2 ^ 16 = unit-below a in omega arith)

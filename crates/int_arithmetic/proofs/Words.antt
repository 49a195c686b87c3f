-- The 32 bits of a number, and the number of 32 bits.
use Rattle.std.proofs.Common.{◌≡◌, ℕ, suc, ◌-◌, ◌^◌, ◌<◌, Bool, true, false, refl, ap, ◌∙◌, arith}
use Rattle.std.specs.Prelude.{ℤ, pos, negsuc, ◌-ℤ◌, nat_lt, FitsSigned, if◌then◌else◌}
use Rattle.std.specs.Int.{cast_signed, cast_unsigned, int_wrap, w32}
use Rattle.std.specs.Int.Bits.{or_zero_r}
use Rattle.std.proofs.lemmas.Int.{ints, to_z-of_z}
use Rattle.int_arithmetic.specs.Signed.{wrapped}
use Rattle.int_arithmetic.specs.Numbers.{to_uint32, with_sign, to_int32, or_numbers}

pub uint-is : (z : ℤ) → FitsSigned w32 z → to_uint32 z ≡ cast_unsigned w32 z
uint-is (pos n) f = let h : n < 2 ^ 31 = f.sfits in omega arith
uint-is (negsuc n) f = let h : n < 2 ^ 31 = f.sfits in omega arith

sign-go : (n : ℕ) (b : Bool) → nat_lt n (2 ^ 31) ≡ b → n < 2 ^ 32 → (if b then pos n else (pos n -ℤ pos (2 ^ 32))) ≡ cast_signed w32 n
sign-go n true e h = grind (arith, ints)
sign-go n false e h = grind (arith, ints)

pub sign-is : (n : ℕ) → n < 2 ^ 32 → with_sign n ≡ cast_signed w32 n
sign-is n h = sign-go n (nat_lt n (2 ^ 31)) refl h

pub uint-below : (z : ℤ) → to_uint32 z < 2 ^ 32
uint-below (pos n) = omega arith
uint-below (negsuc n) = omega arith

pub int32-is : (z : ℤ) → to_int32 z ≡ wrapped z
int32-is z = sign-is (to_uint32 z) (uint-below z)

pub wrapped-is : (z : ℤ) → int_wrap w32 z ≡ wrapped z
unfolding int_wrap
wrapped-is (pos n) = refl
wrapped-is (negsuc n) = refl

pub wrapped-same : (z : ℤ) → FitsSigned w32 z → wrapped z ≡ z
wrapped-same z f = ap (cast_signed w32) (uint-is z f) ∙ to_z-of_z w32 z f

pub int32-same : (z : ℤ) → FitsSigned w32 z → to_int32 z ≡ z
int32-same z f = int32-is z ∙ wrapped-same z f

pub or_zero-is : (z : ℤ) → or_numbers z (pos 0) ≡ wrapped z
or_zero-is z = ap with_sign (or_zero_r (to_uint32 z)) ∙ int32-is z

cast-go : (n : ℕ) (b : Bool) → nat_lt n (2 ^ 31) ≡ b → n < 2 ^ 32 → FitsSigned w32 (if b then pos n else negsuc (2 ^ 32 - suc n))
cast-go n true e h = record { sfits = grind arith }
cast-go n false e h = record { sfits = grind arith }

-- 32 bits as a number with a sign
pub cast-fits : (n : ℕ) → n < 2 ^ 32 → FitsSigned w32 (cast_signed w32 n)
cast-fits n h = cast-go n (nat_lt n (2 ^ 31)) refl h

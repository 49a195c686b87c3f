-- The IR's operators give numbers of 32 bits.
use Rattle.std.proofs.Common.{◌≡◌, ◌^◌, true, refl, subst, arith}
use Rattle.std.specs.Prelude.{ℤ, pos, negsuc, FitsSigned}
use Rattle.std.specs.Int.{int_wrap, w8, w16, w32}
use Rattle.std.specs.Int.Signed.{mag_shr, mag_rem}
use Rattle.std.proofs.lemmas.Int.{SFits-int_wrap}
use Rattle.int_arithmetic.specs.Signed.{wrapped, wrapped_to_byte, wrapped_to_short, is_signed_32, places, shifted_right, remainder}
use Rattle.int_arithmetic.proofs.Words.{wrapped-is}

pub wrapped-fits : (z : ℤ) → FitsSigned w32 (wrapped z)
wrapped-fits z = subst (FitsSigned w32) (wrapped-is z) (SFits-int_wrap w32 z)

pub shifted_right-fits : (a b : ℤ) → FitsSigned w32 a → FitsSigned w32 (shifted_right a b)
shifted_right-fits a b f = let h = mag_shr a (2 ^ places b) in let k = f.sfits in record { sfits = omega arith }

pub remainder-fits : (a b : ℤ) → FitsSigned w32 a → FitsSigned w32 (remainder a b)
remainder-fits a b f = let h = mag_rem a b in let k = f.sfits in record { sfits = omega arith }

byte-is : (z : ℤ) → int_wrap w8 z ≡ wrapped_to_byte z
unfolding int_wrap
byte-is (pos n) = refl
byte-is (negsuc n) = refl

short-is : (z : ℤ) → int_wrap w16 z ≡ wrapped_to_short z
unfolding int_wrap
short-is (pos n) = refl
short-is (negsuc n) = refl

byte_is_int : (z : ℤ) → FitsSigned w8 z → FitsSigned w32 z
byte_is_int z f = let k = f.sfits in record { sfits = omega arith }

short_is_int : (z : ℤ) → FitsSigned w16 z → FitsSigned w32 z
short_is_int z f = let k = f.sfits in record { sfits = omega arith }

pub byte-fits : (z : ℤ) → FitsSigned w32 (wrapped_to_byte z)
byte-fits z = byte_is_int (wrapped_to_byte z) (subst (FitsSigned w8) (byte-is z) (SFits-int_wrap w8 z))

pub short-fits : (z : ℤ) → FitsSigned w32 (wrapped_to_short z)
short-fits z = short_is_int (wrapped_to_short z) (subst (FitsSigned w16) (short-is z) (SFits-int_wrap w16 z))

pub signed_32-fits : (z : ℤ) → is_signed_32 z ≡ true → FitsSigned w32 z
signed_32-fits (pos n) h = record { sfits = grind arith }
signed_32-fits (negsuc n) h = record { sfits = grind arith }

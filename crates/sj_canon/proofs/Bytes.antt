-- The eight bytes of a number.
use Rattle.std.proofs.Common.{◌≡◌, ℕ, ◌<◌, ◌/◌, ◌%◌, ◌^◌, [], ◌∷◌, ap, arith}
use Rattle.std.specs.Int.{to_le_bytes, w64}
use Rattle.sj_canon.specs.Numbers.{long_bytes}

last_byte : (n : ℕ) → n < 2 ^ 64 → n / 0x100_0000_0000_0000 % 256 ≡ n / 0x100_0000_0000_0000
last_byte n h = omega arith

pub eight_bytes : (n : ℕ) → n < 2 ^ 64 → to_le_bytes w64 n ≡ long_bytes n
unfolding long_bytes
eight_bytes n h = ap (λ (b : ℕ). n % 256 ∷ n / 0x100 % 256 ∷ n / 0x1_0000 % 256 ∷ n / 0x100_0000 % 256 ∷ n / 0x1_0000_0000 % 256 ∷ n / 0x100_0000_0000 % 256 ∷ n / 0x1_0000_0000_0000 % 256 ∷ b ∷ []) (last_byte n h)

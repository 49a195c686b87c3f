-- Canonical bytes of numbers, of texts and of lists. What is written tells where it ends, so no two things are written alike,
-- whatever follows.
use Rattle.std.specs.Prelude.{ℕ, ◌/◌, ◌%◌, ℤ, pos, negsuc, Bool, true, false, List, [], ◌∷◌, ◌++◌, length, Option, Some, None, nat_lt, if◌then◌else◌}
use Rattle.std.specs.Int.RustNames.{unsigned_abs}

-- a number in eight bytes, the lowest first; the last has all that is left
unfoldable pub long_bytes : ℕ → List ℕ
long_bytes n = n % 256 ∷ n / 0x100 % 256 ∷ n / 0x1_0000 % 256 ∷ n / 0x100_0000 % 256 ∷ n / 0x1_0000_0000 % 256 ∷ n / 0x100_0000_0000 % 256 ∷ n / 0x1_0000_0000_0000 % 256 ∷ n / 0x100_0000_0000_0000 ∷ []

-- a number: one byte where it is below 255, else 255 and eight bytes
unfoldable pub number_bytes : ℕ → List ℕ
number_bytes n = if nat_lt n 255 then n ∷ [] else 255 ∷ long_bytes n

abbrev pub is_negative : ℤ → Bool
is_negative (pos n) = false
is_negative (negsuc n) = true

abbrev pub mark_byte : Bool → ℕ
mark_byte false = 0
mark_byte true = 1

-- a number that may be negative: whether it is, and its size
unfoldable pub signed_bytes : ℤ → List ℕ
signed_bytes z = mark_byte (is_negative z) ∷ number_bytes (unsigned_abs z)

-- a text: how many bytes it has, and they
unfoldable pub text_bytes : List ℕ → List ℕ
text_bytes text = number_bytes (length text) ++ text

abbrev pub each_bytes : {A : Type 0} → (A → List ℕ) → List A → List ℕ
each_bytes bytes [] = []
each_bytes bytes (x ∷ xs) = bytes x ++ each_bytes bytes xs

-- a list: how many there are, and each
abbrev pub list_bytes : {A : Type 0} → (A → List ℕ) → List A → List ℕ
list_bytes bytes xs = number_bytes (length xs) ++ each_bytes bytes xs

-- what may be missing
abbrev pub option_bytes : {A : Type 0} → (A → List ℕ) → Option A → List ℕ
option_bytes bytes None = 0 ∷ []
option_bytes bytes (Some x) = 1 ∷ bytes x

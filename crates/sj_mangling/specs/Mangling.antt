-- The mangling of names into names of the emitted code.
use Rattle.std.specs.Prelude.{◌≡◌, ◌/◌, ◌%◌, ℕ, Bool, List, [], ◌∷◌, ◌==◌, ◌&&◌, ◌||◌, nat_le, codes, if◌then◌else◌}
use Rattle.std.specs.List.{flat_map}
use Rattle.std.specs.Char.{digit_char}

-- an ASCII letter or digit
abbrev pub is_alphanumeric : ℕ → Bool
is_alphanumeric byte = (nat_le 48 byte && nat_le byte 57) || (nat_le 65 byte && nat_le byte 90) || (nat_le 97 byte && nat_le byte 122)

-- letters and digits stay, `.` becomes `_`, `;` becomes `$$`, all others `$` and two lower-case hexadecimal digits
abbrev pub mangled_byte : ℕ → List ℕ
mangled_byte byte =
    if is_alphanumeric byte then byte ∷ [] else
    if byte == 46 then codes "_" else
    if byte == 59 then codes "$$" else
    36 ∷ digit_char (byte / 16) ∷ digit_char (byte % 16) ∷ []

-- byte by byte
abbrev pub mangled : List ℕ → List ℕ
mangled = flat_map mangled_byte

-- two texts that are mangled alike are the same
abbrev pub MangledTextsDiffer : Type 0
MangledTextsDiffer = (one other : List ℕ) → mangled one ≡ mangled other → one ≡ other

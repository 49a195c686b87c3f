-- The code units that a string literal of the emitted JavaScript escapes. It is printable ASCII between quotation marks.
use Rattle.std.specs.Prelude.{◌==◌, ◌||◌, ℕ, Bool, nat_lt}

-- below 0x20, above 0x7E, a quotation mark or a backslash
abbrev pub is_special_unit : ℕ → Bool
is_special_unit unit = nat_lt unit 0x20 || nat_lt 0x7E unit || unit == 0x22 || unit == 0x5C

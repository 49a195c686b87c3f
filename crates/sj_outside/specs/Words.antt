-- The words of a command line, and files of one line.
use Rattle.std.specs.Prelude.{ℕ, ◌-◌, Bool, true, List, [], ◌∷◌, ◌==◌, not, length, take, nat_eq, if◌then◌else◌}
use Rattle.std.specs.List.{ends_with}

-- a word that names something doesn't begin with `-`
abbrev pub is_operand : List ℕ → Bool
is_operand [] = true
is_operand (b ∷ bs) = not (b == 45)

-- the bytes but for a line feed at their end
abbrev pub without_line_feed : List ℕ → List ℕ
without_line_feed bytes = if ends_with nat_eq bytes (10 ∷ []) then take (length bytes - 1) bytes else bytes

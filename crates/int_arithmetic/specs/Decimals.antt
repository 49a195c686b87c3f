-- Integers in decimal, as both sides write them.
use Rattle.std.specs.Prelude.{ℕ, suc, List, ◌∷◌, ℤ, pos, negsuc, decimal}

-- with `-` in front where it is negative
abbrev pub decimal_text : ℤ → List ℕ
decimal_text (pos n) = decimal n
decimal_text (negsuc n) = 45 ∷ decimal (suc n)

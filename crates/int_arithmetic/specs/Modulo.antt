-- The arithmetic that both sides cite.
use Rattle.std.specs.Prelude.{ℕ, ◌-◌, ◌%◌, ℤ, pos, negsuc}

-- what is left of z when a multiple of n is taken away: from 0 to n - 1
abbrev pub modulo : ℤ → ℕ → ℕ
modulo (pos a) n = a % n
modulo (negsuc a) n = n - 1 - a % n

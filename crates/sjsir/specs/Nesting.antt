-- How deep the parentheses of a text stand one in another.
use Rattle.std.specs.Prelude.{ℕ, ◌+◌, ◌-◌, ◌==◌, Bool, true, false, List, [], ◌∷◌, nat_lt, if◌then◌else◌}
use Rattle.sjsir.specs.declared.nesting.Spot.{Spot}
use Rattle.sjsir.specs.declared.nesting.Spot.TheVariants.{Outside, Literal, Escape}

-- where a text stands behind one byte more: a literal goes from a quotation mark to the next that has no backslash in front
abbrev pub behind : Spot → ℕ → Spot
behind Outside c = if c == 34 then Literal else Outside
behind Literal c = if c == 34 then Outside else if c == 92 then Escape else Literal
behind Escape c = Literal

-- how many parentheses are open behind one byte more
abbrev pub open_behind : Spot → ℕ → ℕ → ℕ
open_behind Outside n c = if c == 40 then n + 1 else if c == 41 then n - 1 else n
open_behind Literal n c = n
open_behind Escape n c = n

-- more than 600 parentheses are open somewhere, where a text goes on so from a place at which some are
abbrev pub deep_from : Spot → ℕ → List ℕ → Bool
deep_from spot n [] = false
deep_from spot n (c ∷ cs) = if nat_lt 600 (open_behind spot n c) then true else deep_from (behind spot c) (open_behind spot n c) cs

-- more than 600 parentheses stand one in another outside of the literals of the text. The trees of a class file stand at most 200 deep,
-- which takes at most 402 parentheses in its listing
abbrev pub is_deep : List ℕ → Bool
is_deep = deep_from Outside 0

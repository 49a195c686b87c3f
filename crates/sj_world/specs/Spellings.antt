-- The spellings of results in parts, by which their order is found.
use Rattle.std.specs.Prelude.{◌≡◌, ℕ, ◌<◌, List, ◌∷◌, ◌++◌, replicate}
use Rattle.std.specs.declared.cmp.Ordering.{Ordering}
use Rattle.std.specs.Ordering.{ordering_then, nat_cmp}
use Rattle.std.specs.Cmp.Lexicographic.{slice_cmp}

-- `[` so many times, a letter that stands before `[` in the order of bytes, and a name
pub record IsSpelled (dimensions letter : ℕ) (name text : List ℕ) : Type 0 where
  pub before_bracket : letter < 0x5b
  pub text_is : text ≡ replicate dimensions 0x5b ++ (letter ∷ name)

-- the spelling with more `[` is the greater, then the one with the greater letter, then the one with the greater name
abbrev pub parts_cmp : ℕ → ℕ → List ℕ → ℕ → ℕ → List ℕ → Ordering
parts_cmp d letter name e other another = ordering_then (ordering_then (nat_cmp d e) (nat_cmp letter other)) (slice_cmp nat_cmp name another)

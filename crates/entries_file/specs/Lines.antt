-- The lines of a text, and the fields of a line.
use Rattle.std.specs.Prelude.{◌≡◌, ◌⊎◌, ◌++◌, ◌==◌, ℕ, Bool, true, List, [], ◌∷◌, not}
use Rattle.std.specs.List.{list_all, slice_split}

abbrev pub is_line_feed : ℕ → Bool
is_line_feed byte = byte == 10

abbrev pub is_space : ℕ → Bool
is_space byte = byte == 32

-- what stands between the line feeds of a text; behind a line feed at its end stands an empty line, which says nothing
abbrev pub lines : List ℕ → List (List ℕ)
lines text = slice_split is_line_feed text

-- what stands between the spaces of a line
abbrev pub fields : List ℕ → List (List ℕ)
fields line = slice_split is_space line

-- a line, and what stands behind its line feed, which the last line lacks
abbrev pub IsFirstLine : List ℕ → List ℕ → List ℕ → Type 0
IsFirstLine text line behind = (list_all (λ byte. not (is_line_feed byte)) line ≡ true) × ((text ≡ line ++ 10 ∷ behind) ⊎ ((text ≡ line) × (behind ≡ [])))

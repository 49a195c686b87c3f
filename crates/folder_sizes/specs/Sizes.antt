-- When the files of a folder are too large.
use Rattle.std.specs.Prelude.{◌≡◌, ◌⊎◌, ℕ, ◌+◌, ◌^◌, ◌<◌, List, [], ◌∷◌, take, Some, slice_get}

-- 16 MiB
abbrev pub largest_file : ℕ
largest_file = 2 ^ 24

-- 256 MiB
abbrev pub largest_folder : ℕ
largest_folder = 2 ^ 28

abbrev pub most_files : ℕ
most_files = 65535

abbrev pub sum : List ℕ → ℕ
sum [] = 0
sum (n ∷ ns) = n + sum ns

-- a file of this size at this place, behind files of so many bytes together: it is too large, or with it all are, or are too many
abbrev pub IsOver : ℕ → ℕ → ℕ → Type 0
IsOver place total size = (largest_file < size) ⊎ (largest_folder < total + size) ⊎ (most_files < place + 1)

-- files of these sizes are too large at this place
pub record IsTooLarge (sizes : List ℕ) (place : ℕ) : Type 0 where
  pub size : ℕ
  pub at : slice_get sizes place ≡ Some size
  pub over : IsOver place (sum (take place sizes)) size

pub record IsFirstTooLarge (sizes : List ℕ) (place : ℕ) : Type 0 where
  pub too_large : IsTooLarge sizes place
  pub first : (earlier : ℕ) → earlier < place → IsTooLarge sizes earlier → ⊥

-- How long a run of bytes is.
use Rattle.std.specs.Prelude.{◌≡◌, ℕ, ◌≤◌, Bool, true, false, List, ◌∷◌, length, take, drop}
use Rattle.std.specs.List.{list_all}

-- how many of the first bytes pass the test
pub record IsLongest (test : ℕ → Bool) (bytes : List ℕ) (n : ℕ) : Type 0 where
  pub within : n ≤ length bytes
  pub all : list_all test (take n bytes) ≡ true
  pub over : (c : ℕ) (back : List ℕ) → drop n bytes ≡ c ∷ back → test c ≡ false

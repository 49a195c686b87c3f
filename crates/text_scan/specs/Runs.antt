-- Where a run of bytes ends.
use Rattle.exact_place.specs.Tokens.{is_digit, one_more}
use Rattle.std.specs.Prelude.{◌≡◌, ℕ, ◌&&◌, nat_lt, cond, Bool, true, false, List, [], ◌∷◌, ◌++◌}

-- the longest front that is alive, and the rest
pub record IsSplit (alive : List ℕ → Bool) (bytes word rest : List ℕ) : Type 0 where
  pub parts : bytes ≡ word ++ rest
  pub whole : alive word ≡ true
  pub over : (c : ℕ) (back : List ℕ) → rest ≡ c ∷ back → alive (word ++ c ∷ []) ≡ false

-- the number that digits give behind the number v, as long as it stays below the limit, and the rest
unfoldable pub number_run : ℕ → ℕ → List ℕ → ℕ × List ℕ
number_run limit v [] = (v, [])
number_run limit v (c ∷ cs) = cond (is_digit c && nat_lt (one_more v c) limit) (number_run limit (one_more v c) cs) (v, c ∷ cs)

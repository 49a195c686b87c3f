-- The order in which a search finds keys.
use Rattle.std.specs.Prelude.{◌≡◌, ℕ, ◌+◌, Bool, List, Some, length, slice_get}
use Rattle.indexmap.specs.IndexSet.{insert_all}

-- the keys that are found once the first `done` have been gone through: behind the first keys stands what each leads to, as far as
-- it wasn't there yet
pub data Found {K : Type 0} (eq : K → K → Bool) (next : K → List K) (first : List K) : ℕ → List K → Type 0 where
  begins : Found eq next first 0 first
  goes_on : (done : ℕ) (keys : List K) (key : K) → Found eq next first done keys → slice_get keys done ≡ Some key → Found eq next first (done + 1) (insert_all eq keys (next key))

-- all have been gone through
pub record IsSearched {K : Type 0} (eq : K → K → Bool) (next : K → List K) (first keys : List K) : Type 0 where
  pub all : Found eq next first (length keys) keys

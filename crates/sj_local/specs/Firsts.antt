-- The first of a list, and what comes twice in one.
use Rattle.std.specs.Prelude.{ℕ, suc, ◌-◌, ◌^◌, min, Bool, List, [], ◌∷◌, ◌++◌, Option, Some, None, option_map, Contains, if◌then◌else◌}

-- a number of 32 bits: this one, or the last where it is more
abbrev pub in_32_bits : ℕ → ℕ
in_32_bits n = min n (2 ^ 32 - 1)

-- the index of the first that passes the test
abbrev pub first_where : {A : Type 0} → (A → Bool) → List A → Option ℕ
first_where test [] = None
first_where test (x ∷ xs) = if test x then Some 0 else option_map suc (first_where test xs)

-- the index of the first that stands among those before it, behind others that are given
pub data FirstRepeat {K : Type 0} : List K → List K → Option ℕ → Type 0 where
  nothing_left : (earlier : List K) → FirstRepeat earlier [] None
  here : (earlier : List K) (key : K) (keys : List K) → Contains earlier key → FirstRepeat earlier (key ∷ keys) (Some 0)
  later : (earlier : List K) (key : K) (keys : List K) (index : Option ℕ) → (Contains earlier key → ⊥) → FirstRepeat (earlier ++ key ∷ []) keys index → FirstRepeat earlier (key ∷ keys) (option_map suc index)

-- the first of the list, numbered from n, for which there is an answer, and that answer
pub data FirstAnswer {A R : Type 0} (Answers : A → Option R → Type 0) : ℕ → List A → Option (ℕ × R) → Type 0 where
  none_left : (n : ℕ) → FirstAnswer Answers n [] None
  this_one : (n : ℕ) (x : A) (xs : List A) (r : R) → Answers x (Some r) → FirstAnswer Answers n (x ∷ xs) (Some (n, r))
  a_later_one : (n : ℕ) (x : A) (xs : List A) (found : Option (ℕ × R)) → Answers x None → FirstAnswer Answers (suc n) xs found → FirstAnswer Answers n (x ∷ xs) found

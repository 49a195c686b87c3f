-- Numbers that are marked.
use Rattle.std.specs.Prelude.{◌≡◌, ◌⊎◌, ℕ, ◌+◌, ◌<◌, ◌≤◌, Bool, true, false, List, [], ◌∷◌, length}
use Rattle.number_graphs.specs.Graphs.{At}

abbrev pub AreBelow : ℕ → List ℕ → Type 0
AreBelow count numbers = (place number : ℕ) → At numbers place number → number < count

-- how many are not marked
abbrev pub unmarked : List Bool → ℕ
unmarked [] = 0
unmarked (true ∷ marks) = unmarked marks
unmarked (false ∷ marks) = 1 + unmarked marks

-- the number is in the list
pub record IsAmong (numbers : List ℕ) (number : ℕ) : Type 0 where
  pub place : ℕ
  pub at : At numbers place number

-- the numbers were marked, and those that weren't marked before are pending
pub record IsMarking (numbers : List ℕ) (old_marks : List Bool) (old_pending : List ℕ) (marks : List Bool) (pending : List ℕ) : Type 0 where
  pub same_length : length marks ≡ length old_marks
  pub from : (number : ℕ) → At marks number true → At old_marks number true ⊎ IsAmong numbers number
  pub kept : (number : ℕ) → At old_marks number true → At marks number true
  pub all : (place number : ℕ) → At numbers place number → At marks number true
  pub still_pending : (place number : ℕ) → At old_pending place number → At pending place number
  pub pending_from : (place number : ℕ) → At pending place number → At old_pending place number ⊎ At marks number true
  pub new_pending : (number : ℕ) → At marks number true → At old_marks number true ⊎ IsAmong pending number
  pub fewer : unmarked marks ≤ unmarked old_marks
  pub counted : unmarked marks + length pending ≡ unmarked old_marks + length old_pending

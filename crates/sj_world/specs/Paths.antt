-- Finite paths of steps, and the first item of a list with a property.
pub use Rattle.worklist.specs.Paths.{Path, stay, on}
use Rattle.std.specs.Prelude.{◌≡◌, ℕ, ◌<◌, List, Some, slice_get}

-- x stands in the list and has the property, and nothing before it has
pub record IsFirst {X : Type 0} (Has : X → Type 0) (xs : List X) (x : X) : Type 0 where
  pub place : ℕ
  pub stands : slice_get xs place ≡ Some x
  pub has : Has x
  pub none_before : (i : ℕ) (y : X) → i < place → slice_get xs i ≡ Some y → Has y → ⊥

-- nothing in the list has the property
pub record HasNone {X : Type 0} (Has : X → Type 0) (xs : List X) : Type 0 where
  pub none : (i : ℕ) (y : X) → slice_get xs i ≡ Some y → Has y → ⊥

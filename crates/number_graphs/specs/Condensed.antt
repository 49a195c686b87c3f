-- The graph of components.
use Rattle.std.specs.Prelude.{◌≡◌, ◌↔◌, ◌⊎◌, ℕ, ◌<◌, List, length}
use Rattle.number_graphs.specs.Graphs.{At, Lists, Leads, IsGraph, Walk}
use Rattle.number_graphs.specs.Marks.{IsAmong}

-- a number for each component, and a walk between two exactly where one leads between their numbers
pub record IsCondensed (next : Lists) (of firsts : List ℕ) (condensed : Lists) : Type 0 where
  pub whole : length condensed ≡ length firsts
  pub graph : IsGraph condensed
  pub walks : (a b one other : ℕ) → At of a one → At of b other → Walk condensed one other ↔ Walk next a b

-- one of these numbers is in the component
pub record IsComponentOf (of numbers : List ℕ) (component : ℕ) : Type 0 where
  pub number : ℕ
  pub among : IsAmong numbers number
  pub is : At of number component

-- the component leads to those of these numbers, beside what was led to
pub record IsConnected (of numbers : List ℕ) (component : ℕ) (old new : Lists) : Type 0 where
  pub whole : length new ≡ length old
  pub leads : (from to : ℕ) → Leads new from to ↔ (Leads old from to ⊎ ((from ≡ component) × IsComponentOf of numbers to))

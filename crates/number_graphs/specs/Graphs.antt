-- Graphs of numbers, and their components.
use Rattle.std.specs.Prelude.{◌≡◌, ◌↔◌, ◌≤◌, ℕ, zero, suc, ◌<◌, List, [], ◌∷◌, length, Vec, Contains, Some, slice_get}
use Rattle.std.specs.Global.{Global}
use Rattle.worklist.specs.Paths.{Path}

-- for each number below their length, what it leads to
abbrev pub Lists : Type 0
Lists = List (Vec ℕ Global)

abbrev pub next_of : Lists → ℕ → List ℕ
next_of [] number = []
next_of (list ∷ lists) zero = list.items
next_of (list ∷ lists) (suc number) = next_of lists number

abbrev pub Leads : Lists → ℕ → ℕ → Type 0
Leads next from to = Contains (next_of next from) to

-- what a number leads to is in the graph
abbrev pub IsGraph : Lists → Type 0
IsGraph next = (from to : ℕ) → Leads next from to → to < length next

-- a finite walk leads from one number to another; it may have no step
abbrev pub Walk : Lists → ℕ → ℕ → Type 0
Walk next = Path (Leads next)

-- walks lead both ways
pub record AreTogether (next : Lists) (a b : ℕ) : Type 0 where
  pub there : Walk next a b
  pub back : Walk next b a

-- the item stands at this place
abbrev pub At : {X : Type 0} → List X → ℕ → X → Type 0
At items place item = slice_get items place ≡ Some item

-- the components of numbers: the same exactly where walks lead both ways; what a number leads to is in its component or in an earlier
-- one; the first of a component is in it
pub record AreComponents (next : Lists) (of firsts : List ℕ) : Type 0 where
  pub whole : length of ≡ length next
  pub same : (a b one other : ℕ) → At of a one → At of b other → (one ≡ other) ↔ AreTogether next a b
  pub in_order : (a b one other : ℕ) → Leads next a b → At of a one → At of b other → other ≤ one
  pub counted : (a one : ℕ) → At of a one → one < length firsts
  pub firsts_are : (one a : ℕ) → At firsts one a → At of a one

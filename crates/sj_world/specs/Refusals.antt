-- When classes make a world, and what is named where they don't.
use Rattle.std.specs.Prelude.{◌≡◌, ℕ, ◌<◌, ◌≤◌, Bool, true, false, Some, slice_get, count_by}
use Rattle.std.specs.Ordering.{nat_cmp, is_lt}
use Rattle.std.specs.Cmp.Lexicographic.{slice_cmp}
use Rattle.std.specs.List.Sorted.{IsPermutation}
use Rattle.sj_trees.specs.declared.classes.ClassDef.{ClassDef}
use Rattle.sj_world.specs.declared.worlds.WorldError.{WorldError}
use Rattle.sj_world.specs.declared.worlds.WorldError.TheVariants.{DuplicateClass, Cycle, NoMemory}
use Rattle.sj_world.specs.Known.{Name, Classes, is_same}
use Rattle.sj_world.specs.Ancestors.{IsOnCycle}

-- one name stands before another in the order of their bytes
abbrev pub is_before : Name → Name → Bool
is_before a b = is_lt (slice_cmp nat_cmp a b)

-- each class stands before those of greater names, and no name comes twice
pub record IsInOrder (w : Classes) : Type 0 where
  pub rises : (i j : ℕ) (a b : ClassDef) → i < j → slice_get w i ≡ Some a → slice_get w j ≡ Some b → is_before a.name b.name ≡ true

-- two of the classes have this name
abbrev pub IsTwice : Classes → Name → Type 0
IsTwice given name = 2 ≤ count_by (λ c. is_same c.name name) given

pub record IsLeastTwice (given : Classes) (name : Name) : Type 0 where
  pub twice : IsTwice given name
  pub least : (other : Name) → IsTwice given other → is_before other name ≡ false

pub record IsLeastOnCycle (w : Classes) (name : Name) : Type 0 where
  pub on_cycle : IsOnCycle w name
  pub least : (other : Name) → IsOnCycle w other → is_before other name ≡ false

-- the given classes in the order of their names, of which none comes twice
pub record IsSortedFrom (given w : Classes) : Type 0 where
  pub same : IsPermutation given w
  pub in_order : IsInOrder w

-- no class of the world stands on a cycle
pub record HasNoCycle (w : Classes) : Type 0 where
  pub none : (name : Name) → IsOnCycle w name → ⊥

-- a world of the given classes
pub record IsWorldOf (given w : Classes) : Type 0 where
  pub sorted : IsSortedFrom given w
  pub no_cycle : HasNoCycle w

-- no name comes twice, and this is the least that stands on a cycle
pub record IsCyclic (given : Classes) (name : Name) : Type 0 where
  pub w : Classes
  pub sorted : IsSortedFrom given w
  pub least : IsLeastOnCycle w name

-- why the given classes are refused
abbrev pub IsRefused : Classes → WorldError → Type 0
IsRefused given (DuplicateClass name) = IsLeastTwice given name
IsRefused given (Cycle name) = IsCyclic given name
IsRefused given NoMemory = Unit {0}

-- why classes in order are refused: the least on a cycle
abbrev pub IsRefusedForCycle : Classes → WorldError → Type 0
IsRefusedForCycle w (DuplicateClass name) = ⊥
IsRefusedForCycle w (Cycle name) = IsLeastOnCycle w name
IsRefusedForCycle w NoMemory = Unit {0}

-- The classes of a world, each with the number of its ancestors.
use Rattle.std.specs.Prelude.{◌≡◌, ℕ, Bool, List, Contains, map, length}
use Rattle.std.specs.Cmp.Lexicographic.{slice_cmp}
use Rattle.std.specs.Ordering.{nat_cmp, ordering_then, is_lt}
use Rattle.std.specs.declared.cmp.Ordering.{Ordering}
use Rattle.sj_trees.specs.declared.classes.ClassDef.{ClassDef}
use Rattle.sj_world.specs.Known.{Name, Classes}
use Rattle.sj_world.specs.Tables.{AreAncestors}
use Rattle.world_pieces.specs.declared.classes.ClassPlace.{ClassPlace}

-- the class has so many ancestors
pub record HasAncestors (w : Classes) (class : Name) (count : ℕ) : Type 0 where
  pub names : List Name
  pub are : AreAncestors w class names
  pub many : count ≡ length names

abbrev pub name_of : ClassPlace → Name
name_of p = p.name

abbrev pub class_name : ClassDef → Name
class_name c = c.name

-- the classes of these names, each with the number of its ancestors
pub record ArePlaces (w : Classes) (names : List Name) (places : List ClassPlace) : Type 0 where
  pub names_are : map name_of places ≡ names
  pub each : (p : ClassPlace) → Contains places p → HasAncestors w p.name p.ancestors

-- first by the ancestors, then by the names
abbrev pub order : ClassPlace → ClassPlace → Ordering
order a b = ordering_then (nat_cmp a.ancestors b.ancestors) (slice_cmp nat_cmp a.name b.name)

abbrev pub is_before : ClassPlace → ClassPlace → Bool
is_before a b = is_lt (order a b)

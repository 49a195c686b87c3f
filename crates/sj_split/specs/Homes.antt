-- The module to which a class belongs.
use Rattle.std.specs.Prelude.{◌≡◌, ◌↔◌, List, [], ◌∷◌, Option, Some, None, Contains, map}
use Rattle.std.specs.List.{join_with_byte}
use Rattle.sj_names.specs.declared.entry_points.EntryPoint.{EntryPoint}
use Rattle.sj_split.specs.declared.homes.Home.{Home}
use Rattle.sj_split.specs.declared.homes.Home.TheVariants.{Public, Internal}
use Rattle.sj_split.specs.declared.homes.Settled.{Settled}
use Rattle.sj_split.specs.declared.plans.Style.{Style}
use Rattle.sj_split.specs.declared.plans.Style.TheVariants.{Fewest, Smallest}
use Rattle.sj_split.specs.Orders.{AreIncreasing}
use Rattle.sj_split.specs.Walks.{Name, Id, References, IsReached, AreTags, IsLeastOfComponent}

-- the module of the classes with these tags: the public module of the one id, or the internal module whose key is the ids, joined by
-- one space
abbrev pub home_of_tags : List Id → Option Home
home_of_tags [] = None
home_of_tags (id ∷ []) = Some (Public id)
home_of_tags (id ∷ other ∷ ids) = Some (Internal (join_with_byte 32 (id ∷ other ∷ ids)))

-- the home of a class by its tags
pub record IsHomeByTags (references : References) (entries : List EntryPoint) (class : Name) (home : Home) : Type 0 where
  pub tags : List Id
  pub are_tags : AreTags references entries class tags
  pub is_home : home_of_tags tags ≡ Some home

-- the home of a class by its component: the internal module whose key is the least name
pub record IsHomeByComponent (references : References) (entries : List EntryPoint) (class : Name) (home : Home) : Type 0 where
  pub reached : IsReached references entries class
  pub least : Name
  pub is_least : IsLeastOfComponent references class least
  pub is_home : home ≡ Internal least

-- the module to which a class belongs that some public module reaches
abbrev pub IsHome : References → List EntryPoint → Style → Name → Home → Type 0
IsHome references entries Fewest = IsHomeByTags references entries
IsHome references entries Smallest = IsHomeByComponent references entries

abbrev pub class_of : Settled → Name
class_of settled = settled.class

-- the classes that some public module reaches, in byte order, each with its home
pub record AreHomes (references : References) (entries : List EntryPoint) (style : Style) (homes : List Settled) : Type 0 where
  pub increasing : AreIncreasing (map class_of homes)
  pub reached : (class : Name) → Contains (map class_of homes) class ↔ IsReached references entries class
  pub right : (settled : Settled) → Contains homes settled → IsHome references entries style settled.class settled.home

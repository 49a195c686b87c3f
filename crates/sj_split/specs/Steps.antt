-- Classes by numbers, the tags that were found, and the least classes.
use Rattle.std.specs.Prelude.{◌≡◌, ◌↔◌, ℕ, ◌<◌, Bool, true, false, List, [], ◌∷◌, ◌++◌, Contains, Option, map, filter, length, get_or}
use Rattle.sj_names.specs.declared.entry_points.EntryPoint.{EntryPoint}
use Rattle.number_graphs.specs.Graphs.{At, Lists, AreComponents}
use Rattle.number_graphs.specs.Condensed.{IsCondensed}
use Rattle.number_graphs.specs.declared.finding.Components.{Components}
use Rattle.class_numbers.specs.Numbering.{IsNumbering}
use Rattle.class_numbers.specs.declared.numbers.ClassNumbers.{ClassNumbers}
use Rattle.sj_split.specs.declared.tags.Reach.{Reach}
use Rattle.sj_split.specs.Orders.{is_same, IsBefore, AreIncreasing}
use Rattle.sj_split.specs.declared.homes.Settled.{Settled}
use Rattle.sj_split.specs.declared.homes.Home.{Home}
use Rattle.sj_split.specs.declared.homes.Home.TheVariants.{Public, Internal}
use Rattle.module_names.specs.Names.{Key}
use Rattle.sj_split.specs.Walks.{Name, Id, References, Walk, Reaches, IsReached, IsLeastOfComponent}
use Rattle.sj_split.specs.Homes.{class_of, home_of_tags}

abbrev pub entry_class : EntryPoint → Name
entry_class entry = entry.class

-- the classes of the initializers of a public module
abbrev pub first_classes : Id → List EntryPoint → List Name
first_classes id entries = map entry_class (filter (λ entry. is_same entry.module id) entries)

-- the classes of some references are numbered
abbrev pub IsNumbered : ClassNumbers → Type 0
IsNumbered numbers = (references : References) × IsNumbering references numbers

-- the classes have numbers
abbrev pub AreInside : List Name → ClassNumbers → Type 0
AreInside classes numbers = (class : Name) → Contains classes class → Contains numbers.classes.keys class

-- a number for each class, in their order, that is right for it
pub record AreOf (Right : ℕ → Name → Type 0) (classes : List Name) (numbers : List ℕ) : Type 0 where
  pub whole : length numbers ≡ length classes
  pub right : (place number : ℕ) (class : Name) → At numbers place number → At classes place class → Right number class

-- the numbers of classes, in their order
abbrev pub AreNumbersOf : List Name → List Name → List ℕ → Type 0
AreNumbersOf keys = AreOf (At keys)

-- the class is in the component
pub record IsWithin (keys : List Name) (of : List ℕ) (component : ℕ) (class : Name) : Type 0 where
  pub number : ℕ
  pub is_class : At keys number class
  pub is_component : At of number component

-- the components of classes, in their order
abbrev pub AreComponentsOf : List Name → List ℕ → List Name → List ℕ → Type 0
AreComponentsOf keys of = AreOf (IsWithin keys of)

-- the components of the classes, and the graph of these
pub record AreCondensed (numbers : ClassNumbers) (components : Components) (graph : Lists) : Type 0 where
  pub found : AreComponents numbers.next.items components.of.items components.firsts.items
  pub condensed : IsCondensed numbers.next.items components.of.items components.firsts.items graph

-- a walk leads to the class from one of these
pub record LedTo (references : References) (starts : List Name) (class : Name) : Type 0 where
  pub from : Name
  pub begins : Contains starts from
  pub walk : Walk references from class

-- the number of the class is marked
pub record IsMarked (keys : List Name) (marks : List Bool) (class : Name) : Type 0 where
  pub number : ℕ
  pub at : At keys number class
  pub marked : At marks number true

abbrev pub id_of : Reach → Id
id_of reach = reach.id

abbrev pub is_marked : ℕ → Reach → Bool
is_marked component reach = get_or reach.marks.items component false

-- the ids whose modules reach the classes of this component
abbrev pub tags_in : ℕ → List Reach → List Id
tags_in component reaches = map id_of (filter (is_marked component) reaches)

-- what a module reaches is known
pub record IsReach (entries : List EntryPoint) (numbers : ClassNumbers) (components : Components) (reach : Reach) : Type 0 where
  pub whole : length reach.marks.items ≡ length components.firsts.items
  pub right : (references : References) → IsNumbering references numbers → (component : ℕ) (class : Name) → IsWithin numbers.classes.keys components.of.items component class → At reach.marks.items component true ↔ Reaches references entries reach.id class

-- what each public module reaches, in the byte order of their ids
pub record AreReaches (entries : List EntryPoint) (numbers : ClassNumbers) (components : Components) (ids : List Id) (reaches : List Reach) : Type 0 where
  pub ids_are : map id_of reaches ≡ ids
  pub right : (reach : Reach) → Contains reaches reach → IsReach entries numbers components reach

-- the home of each component, by its tags
pub record AreHomesByTags (reaches : List Reach) (count : ℕ) (homes : List (Option Home)) : Type 0 where
  pub whole : length homes ≡ count
  pub right : (component : ℕ) (home : Option Home) → At homes component home → home ≡ home_of_tags (tags_in component reaches)

-- the classes that some public module reaches, in byte order
pub record AreReached (references : References) (entries : List EntryPoint) (classes : List Name) : Type 0 where
  pub increasing : AreIncreasing classes
  pub exact : (class : Name) → Contains classes class ↔ IsReached references entries class

abbrev pub keys_at : Home → List Key
keys_at (Public id) = []
keys_at (Internal key) = key ∷ []

-- the keys of homes, in their order
abbrev pub keys_in : List Settled → List Key
keys_in [] = []
keys_in (one ∷ others) = keys_at one.home ++ keys_in others

-- the classes, in their order, each with what is right of it
pub record AreSettled (Right : Settled → Type 0) (classes : List Name) (homes : List Settled) : Type 0 where
  pub classes_are : map class_of homes ≡ classes
  pub right : (settled : Settled) → Contains homes settled → Right settled

-- the home is named by the least class of the component
pub record IsLeastHome (references : References) (settled : Settled) : Type 0 where
  pub least : Name
  pub is_least : IsLeastOfComponent references settled.class least
  pub is_home : settled.home ≡ Internal least

-- a number of each component
pub record AreFirsts (of firsts : List ℕ) : Type 0 where
  pub counted : (number component : ℕ) → At of number component → component < length firsts
  pub within : (component number : ℕ) → At firsts component number → At of number component

-- for each component the number of the class with the least name
pub record AreLeast (keys : List Name) (of least : List ℕ) : Type 0 where
  pub firsts : AreFirsts of least
  pub least_of_all : (component number other : ℕ) (name one : Name) → At least component number → At of other component → At keys number name → At keys other one → IsBefore one name → ⊥

-- the number was taken for the least of its component, if its name stands in front of that of the least so far
pub data IsLowered (keys : List Name) (component number : ℕ) (old new : List ℕ) : Type 0 where
  taken : (before : ℕ) (name one : Name) → At old component before → At keys before name → At keys number one → IsBefore one name → At new component number → length new ≡ length old → ((other n : ℕ) → (other ≡ component → ⊥) → At new other n → At old other n) → IsLowered keys component number old new
  left : (before : ℕ) (name one : Name) → At old component before → At keys before name → At keys number one → (IsBefore one name → ⊥) → new ≡ old → IsLowered keys component number old new

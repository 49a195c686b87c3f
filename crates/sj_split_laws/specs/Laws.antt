-- Laws of plans.
use Rattle.std.specs.Prelude.{◌≡◌, ◌↔◌, ◌⊎◌, ℕ, false, nat_eq, List, codes, length, map, Contains}
use Rattle.std.specs.List.{IsDistinct, starts_with}
use Rattle.module_names.specs.Names.{Key, Digest}
use Rattle.sj_graph.specs.declared.graphs.Graph.{Graph}
use Rattle.sj_names.specs.EntryPoints.{AreEntries}
use Rattle.sj_names.specs.declared.entry_points.EntryPoint.{EntryPoint}
use Rattle.sj_split.specs.Homes.{IsHome}
use Rattle.sj_split.specs.Modules.{IsPlan}
use Rattle.sj_split.specs.Orders.{Bytes, is_same}
use Rattle.sj_split.specs.Walks.{Name, Id, IsReached, Reaches, SameComponent}
use Rattle.sj_split.specs.declared.homes.Home.{Home}
use Rattle.sj_split.specs.declared.homes.Home.TheVariants.{Public}
use Rattle.sj_split.specs.declared.plans.PlannedModule.{PlannedModule}
use Rattle.sj_split.specs.declared.plans.Style.{Style}
use Rattle.sj_split.specs.declared.plans.Style.TheVariants.{Fewest, Smallest}

-- all digests have one length
pub record HaveOneLength (digest_of : Key → Digest) : Type 0 where
  pub size : ℕ
  pub sized : (key : Key) → length (digest_of key) ≡ size

-- no id of an entry begins as the names of internal modules do
abbrev pub NoneIsInternal : List EntryPoint → Type 0
NoneIsInternal entries = (entry : EntryPoint) → Contains entries entry → starts_with nat_eq entry.module (codes "internal-") ≡ false

-- what keeps the names of modules apart
pub record KeepsNamesApart (digest_of : Key → Digest) (entries : List EntryPoint) : Type 0 where
  pub one_length : HaveOneLength digest_of
  pub none_internal : NoneIsInternal entries

abbrev pub name_of : PlannedModule → Bytes
name_of planned = planned.name

-- no two modules of a plan have one name
abbrev pub NamesDiffer : Type 0
NamesDiffer = (digest_of : Key → Digest) (graph : Graph) (entries : List EntryPoint) (style : Style) (modules : List PlannedModule) → KeepsNamesApart digest_of entries → IsPlan digest_of graph entries style modules → IsDistinct is_same (map name_of modules)

-- the ids of a link's entries don't begin as the names of internal modules do
abbrev pub IdsAreNotInternal : Type 0
IdsAreNotInternal = (entries : List EntryPoint) → AreEntries entries → NoneIsInternal entries

-- the class is in one of the modules
pub record IsPlaced (modules : List PlannedModule) (class : Name) : Type 0 where
  pub planned : PlannedModule
  pub among : Contains modules planned
  pub inside : Contains planned.classes class

-- the home is a public module
pub record IsPublic (home : Home) : Type 0 where
  pub id : Id
  pub is : home ≡ Public id

-- a class with this home owns a piece
pub record HasOwner (graph : Graph) (entries : List EntryPoint) (style : Style) (home : Home) : Type 0 where
  pub class : Name
  pub owner : Contains graph.owners class
  pub at_home : IsHome graph.references entries style class home

-- a class with a home is in a module of the plan exactly where its home is public or a class with this home owns a piece
abbrev pub PlacedWhere : Type 0
PlacedWhere = (digest_of : Key → Digest) (graph : Graph) (entries : List EntryPoint) (style : Style) (modules : List PlannedModule) → IsPlan digest_of graph entries style modules → (class : Name) (home : Home) → IsHome graph.references entries style class home → IsPlaced modules class ↔ (IsPublic home ⊎ HasOwner graph entries style home)

-- some public module reaches a class that is in a module of the plan
abbrev pub PlacedAreReached : Type 0
PlacedAreReached = (digest_of : Key → Digest) (graph : Graph) (entries : List EntryPoint) (style : Style) (modules : List PlannedModule) → IsPlan digest_of graph entries style modules → (class : Name) → IsPlaced modules class → IsReached graph.references entries class

-- two classes with homes, each in a module of the plan, are in one exactly where their homes are one
abbrev pub ModulesAreHomes : Type 0
ModulesAreHomes = (digest_of : Key → Digest) (graph : Graph) (entries : List EntryPoint) (style : Style) (modules : List PlannedModule) → IsPlan digest_of graph entries style modules → (a b : Name) (home other : Home) → IsHome graph.references entries style a home → IsHome graph.references entries style b other → (m n : PlannedModule) → Contains modules m → Contains modules n → Contains m.classes a → Contains n.classes b → (m ≡ n) ↔ (home ≡ other)

-- in smallest style two classes that are in modules of the plan are in one exactly where walks lead both ways between them
abbrev pub ModulesAreComponents : Type 0
ModulesAreComponents = (digest_of : Key → Digest) (graph : Graph) (entries : List EntryPoint) (modules : List PlannedModule) → IsPlan digest_of graph entries Smallest modules → (a b : Name) (m n : PlannedModule) → Contains modules m → Contains modules n → Contains m.classes a → Contains n.classes b → (m ≡ n) ↔ SameComponent graph.references a b

-- in fewest style they are in one exactly where the same public modules reach them
abbrev pub ModulesAreTags : Type 0
ModulesAreTags = (digest_of : Key → Digest) (graph : Graph) (entries : List EntryPoint) (modules : List PlannedModule) → AreEntries entries → IsPlan digest_of graph entries Fewest modules → (a b : Name) (m n : PlannedModule) → Contains modules m → Contains modules n → Contains m.classes a → Contains n.classes b → (m ≡ n) ↔ ((id : Id) → Reaches graph.references entries id a ↔ Reaches graph.references entries id b)

-- two plans of the same are one
abbrev pub PlansAreOne : Type 0
PlansAreOne = (digest_of : Key → Digest) (graph : Graph) (entries : List EntryPoint) (style : Style) (one other : List PlannedModule) → KeepsNamesApart digest_of entries → IsPlan digest_of graph entries style one → IsPlan digest_of graph entries style other → one ≡ other

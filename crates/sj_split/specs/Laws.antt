-- Laws of homes and plans.
use Rattle.std.specs.Prelude.{◌≡◌, ◌↔◌, List, Contains}
use Rattle.sj_names.specs.declared.entry_points.EntryPoint.{EntryPoint}
use Rattle.sj_names.specs.EntryPoints.{AreEntries}
use Rattle.sj_split.specs.declared.homes.Home.{Home}
use Rattle.sj_split.specs.declared.plans.Style.{Style}
use Rattle.sj_split.specs.declared.plans.Style.TheVariants.{Fewest, Smallest}
use Rattle.sj_split.specs.Walks.{Name, Id, References, Reaches, SameComponent}
use Rattle.sj_split.specs.Homes.{IsHome}
use Rattle.sj_split.specs.declared.plans.PlannedModule.{PlannedModule}
use Rattle.sj_graph.specs.declared.graphs.Graph.{Graph}
use Rattle.module_names.specs.Names.{Key, Digest}
use Rattle.sj_split.specs.Modules.{IsPlan}

-- in smallest style two classes have one home exactly where they are in one component
abbrev pub ComponentsAreHomes : Type 0
ComponentsAreHomes = (references : References) (entries : List EntryPoint) (a b : Name) (home other : Home) → IsHome references entries Smallest a home → IsHome references entries Smallest b other → (home ≡ other) ↔ SameComponent references a b

-- in fewest style two classes that the same public modules reach have one home
abbrev pub TagsDecideHomes : Type 0
TagsDecideHomes = (references : References) (entries : List EntryPoint) (a b : Name) (home other : Home) → IsHome references entries Fewest a home → IsHome references entries Fewest b other → ((id : Id) → Reaches references entries id a ↔ Reaches references entries id b) → home ≡ other

-- a class has one home
abbrev pub OneHome : Type 0
OneHome = (references : References) (entries : List EntryPoint) (style : Style) (class : Name) (home other : Home) → IsHome references entries style class home → IsHome references entries style class other → home ≡ other

-- no class is in two modules of a plan
abbrev pub OnePlace : Type 0
OnePlace = (digest_of : Key → Digest) (graph : Graph) (entries : List EntryPoint) (style : Style) (modules : List PlannedModule) → IsPlan digest_of graph entries style modules → (m n : PlannedModule) (class : Name) → Contains modules m → Contains modules n → Contains m.classes class → Contains n.classes class → m ≡ n

-- in fewest style the same public modules reach two classes of one home
abbrev pub HomesTellTags : Type 0
HomesTellTags = (references : References) (entries : List EntryPoint) → AreEntries entries → (a b : Name) (home : Home) → IsHome references entries Fewest a home → IsHome references entries Fewest b home → (id : Id) → Reaches references entries id a ↔ Reaches references entries id b

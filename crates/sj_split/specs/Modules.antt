-- The modules of a plan.
use Rattle.std.specs.Prelude.{◌↔◌, Bool, false, List, [], ◌∷◌, ◌++◌, codes, Contains, map, filter, if◌then◌else◌}
use Rattle.std.specs.List.{list_any}
use Rattle.std.specs.List.Sorted.{IsPermutation, IsSortedByKey}
use Rattle.std.specs.Ordering.{nat_cmp}
use Rattle.std.specs.Cmp.Lexicographic.{slice_cmp}
use Rattle.sj_names.specs.declared.entry_points.EntryPoint.{EntryPoint}
use Rattle.module_names.specs.Names.{names_of, Key, Digest}
use Rattle.sj_graph.specs.declared.graphs.Graph.{Graph}
use Rattle.sj_split.specs.declared.homes.Home.{Home}
use Rattle.sj_split.specs.declared.homes.Home.TheVariants.{Public, Internal}
use Rattle.sj_split.specs.declared.homes.Settled.{Settled}
use Rattle.sj_split.specs.declared.plans.Style.{Style}
use Rattle.sj_split.specs.declared.plans.PlannedModule.{PlannedModule}
use Rattle.sj_split.specs.Orders.{Bytes, is_same, AreIncreasing}
use Rattle.sj_split.specs.Walks.{Name, Id}
use Rattle.sj_split.specs.Homes.{AreHomes, class_of}

abbrev pub is_public : Id → Home → Bool
is_public id (Public other) = is_same other id
is_public id (Internal key) = false

abbrev pub is_internal : Key → Home → Bool
is_internal key (Public id) = false
is_internal key (Internal other) = is_same other key

-- the classes whose home passes the test
abbrev pub classes_at : (Home → Bool) → List Settled → List Name
classes_at test homes = map class_of (filter (λ settled. test settled.home) homes)

abbrev pub initializers_of : Id → List EntryPoint → List EntryPoint
initializers_of id entries = filter (λ entry. is_same entry.module id) entries

-- the public module: its classes, and its initializers in the order of the entries
abbrev pub public_module : List EntryPoint → List Settled → Id → PlannedModule
public_module entries homes id = record { name = id; classes = classes_at (is_public id) homes; initializers = initializers_of id entries }

abbrev pub is_among : List Name → Name → Bool
is_among names name = list_any (is_same name) names

-- one of the classes owns a piece
abbrev pub has_piece : List Name → List Name → Bool
has_piece owners classes = list_any (is_among owners) classes

abbrev pub module_without_initializers : Bytes → List Name → PlannedModule
module_without_initializers name classes = record { name = name; classes = classes; initializers = [] }

-- the internal module of these classes, where one of them owns a piece
abbrev pub with_piece : List Name → List Name → Bytes → List PlannedModule
with_piece owners classes name = if has_piece owners classes then module_without_initializers name classes ∷ [] else []

-- the internal modules with these keys and names
abbrev pub internal_modules : List Name → List Settled → List Key → List Bytes → List PlannedModule
internal_modules owners homes [] names = []
internal_modules owners homes (key ∷ keys) [] = []
internal_modules owners homes (key ∷ keys) (name ∷ names) = with_piece owners (classes_at (is_internal key) homes) name ++ internal_modules owners homes keys names

abbrev pub module_of : EntryPoint → Id
module_of entry = entry.module

-- the ids of the public modules, in byte order
pub record AreIds (entries : List EntryPoint) (ids : List Id) : Type 0 where
  pub increasing : AreIncreasing ids
  pub exact : (id : Id) → Contains ids id ↔ Contains (map module_of entries) id

abbrev pub home_of : Settled → Home
home_of settled = settled.home

-- the keys of the internal modules, in byte order
pub record AreKeys (homes : List Settled) (keys : List Key) : Type 0 where
  pub increasing : AreIncreasing keys
  pub exact : (key : Key) → Contains keys key ↔ Contains (map home_of homes) (Internal key)

-- the name of the module's file
abbrev pub file : PlannedModule → Bytes
file planned = planned.name ++ codes ".js"

-- the plan: a public module for each id of an entry, and an internal module for each key whose classes own a piece, in the order of
-- their files
pub record IsPlan (digest_of : Key → Digest) (graph : Graph) (entries : List EntryPoint) (style : Style) (modules : List PlannedModule) : Type 0 where
  pub homes : List Settled
  pub are_homes : AreHomes graph.references entries style homes
  pub ids : List Id
  pub are_ids : AreIds entries ids
  pub keys : List Key
  pub are_keys : AreKeys homes keys
  pub exact : IsPermutation (map (public_module entries homes) ids ++ internal_modules graph.owners homes keys (names_of digest_of keys)) modules
  pub in_order : IsSortedByKey file (slice_cmp nat_cmp) modules

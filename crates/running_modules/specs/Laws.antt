-- Laws of the files of the public modules of a plan, as they run.
use Rattle.std.specs.Prelude.{◌≡◌, true, List, [], ◌∷◌, ◌++◌, Contains, map, filter}
use Rattle.closed_pieces.specs.Entries.{IsLive}
use Rattle.declared_files.specs.Declared.{AreConstants}
use Rattle.declared_files.specs.Placed.{placed, items_until, declare}
use Rattle.sj_emit_help_spec.specs.declared.kinds.Helper.TheVariants.{ArrayClass}
use Rattle.ir_mean.specs.Shows.{initializers}
use Rattle.js_mean.specs.Files.{module_among, items_in, running_order}
use Rattle.js_mean.specs.Shows.{file_of}
use Rattle.js_tree.specs.Terms.{Name, Property, object_item, Piece}
use Rattle.module_files.specs.Files.{program_of}
use Rattle.module_names.specs.Names.{Key, Digest}
use Rattle.sj_emit_module_spec.specs.Laws.{AreClosed, IsSource}
use Rattle.sj_emit_module_spec.specs.Modules.{file_with, is_owned_in, item_of}
use Rattle.closed_pieces.specs.Accepted.{IsAccepted}
use Rattle.agree_early_errors.specs.EmittedMethods.{EmittedMethod}
use Rattle.module_files.specs.Pieces.{AreLinkedPieces}
use Rattle.closed_pieces.specs.Reachable.{Reachable}
use Rattle.sj_split_laws.specs.Laws.{KeepsNamesApart}
use Rattle.sj_graph.specs.References.{IsGraph}
use Rattle.sj_graph.specs.declared.graphs.Graph.{Graph}
use Rattle.sj_names.specs.EntryPoints.{AreEntries}
use Rattle.sj_names.specs.WellKnown.{object}
use Rattle.sj_names.specs.declared.entry_points.EntryPoint.{EntryPoint}
use Rattle.sj_names.specs.declared.folders.SourceFile.{SourceFile}
use Rattle.agree_early_errors.specs.Emitted.{call_item_of}
use Rattle.sj_split.specs.Modules.{IsPlan, file, module_of}
use Rattle.sj_split.specs.Orders.{Bytes}
use Rattle.sj_split.specs.Walks.{Id}
use Rattle.sj_split.specs.declared.plans.PlannedModule.{PlannedModule}
use Rattle.sj_split.specs.declared.plans.Style.{Style}
use Rattle.sj_world.specs.Linked.{Linked}
use Rattle.sj_world.specs.declared.facts.Fact.{Fact}

-- one of the modules has this id, with its file, and the initializers of the id
pub record IsThere (entries : List EntryPoint) (modules : List PlannedModule) (id : Id) : Type 0 where
  pub planned : PlannedModule
  pub among : Contains modules planned
  pub named : planned.name ≡ id
  pub its_file : file planned ≡ file_of id
  pub calls : planned.initializers ≡ initializers entries id

-- in a plan there is a module for each id of an entry
abbrev pub PublicModulesAreThere : Type 0
PublicModulesAreThere = (digest_of : Key → Digest) (graph : Graph) (entries : List EntryPoint) (style : Style) (modules : List PlannedModule)
    → IsPlan digest_of graph entries style modules
    → (id : Id)
    → Contains (map module_of entries) id
    → IsThere entries modules id

-- the file of a module of a plan has the items of the pieces that its classes own, and the calls of its initializers
abbrev pub ModulesHaveTheirItems : Type 0
ModulesHaveTheirItems = (digest_of : Key → Digest) (graph : Graph) (entries : List EntryPoint) (style : Style) (modules : List PlannedModule) (ps : List Piece)
    → KeepsNamesApart digest_of entries
    → IsPlan digest_of graph entries style modules
    → (m : PlannedModule)
    → Contains modules m
    → items_in (module_among (program_of modules ps) (file m)) ≡ map item_of (filter (is_owned_in (file_with modules) (file m)) ps) ++ map call_item_of m.initializers

-- a file from which another imports calls no initializers
abbrev pub ReachedFilesOnlyDeclare : Type 0
ReachedFilesOnlyDeclare = (digest_of : Key → Digest) (graph : Graph) (entries : List EntryPoint) (style : Style) (modules : List PlannedModule) (ps : List Piece)
    → AreEntries entries
    → KeepsNamesApart digest_of entries
    → IsGraph ps graph
    → IsPlan digest_of graph entries style modules
    → (f g : Bytes)
    → IsSource modules ps f g
    → (m : PlannedModule)
    → Contains modules m
    → file m ≡ g
    → m.initializers ≡ []

-- in a plan for the pieces of an accepted folder the files that run in front of that of a module do nothing but declare, and so do the items of its own pieces: each class
-- stands behind the one that it extends
abbrev pub ModulesDeclareInOrder : Type 0
ModulesDeclareInOrder = (digest_of : Key → Digest) (graph : Graph) (entries : List EntryPoint) (style : Style) (modules : List PlannedModule) (files : List SourceFile) (l : Linked) (all : List EmittedMethod) (ps : List Piece)
    → IsAccepted entries files l.world
    → ((f : Fact) → Contains l.facts f → Reachable l.world entries f)
    → (p : AreLinkedPieces l all ps)
    → (Contains p.helpers ArrayClass → IsLive l.world l.facts object)
    → AreEntries entries
    → KeepsNamesApart digest_of entries
    → IsGraph ps graph
    → IsPlan digest_of graph entries style modules
    → AreClosed modules ps
    → (planned : PlannedModule)
    → Contains modules planned
    → (front : List Name)
    → running_order (program_of modules ps) (file planned) ≡ front ++ file planned ∷ []
    → declare (program_of modules ps) [] (items_until (program_of modules ps) front (file planned) (map item_of (filter (is_owned_in (file_with modules) (file planned)) ps))) ≡ true

-- and each object that they declare is the constants of a class
abbrev pub ModulesDeclareConstants : Type 0
ModulesDeclareConstants = (digest_of : Key → Digest) (graph : Graph) (entries : List EntryPoint) (style : Style) (modules : List PlannedModule) (files : List SourceFile) (l : Linked) (all : List EmittedMethod) (ps : List Piece)
    → IsAccepted entries files l.world
    → ((f : Fact) → Contains l.facts f → Reachable l.world entries f)
    → (p : AreLinkedPieces l all ps)
    → (Contains p.helpers ArrayClass → IsLive l.world l.facts object)
    → AreEntries entries
    → KeepsNamesApart digest_of entries
    → IsGraph ps graph
    → IsPlan digest_of graph entries style modules
    → AreClosed modules ps
    → (planned : PlannedModule)
    → Contains modules planned
    → (front : List Name)
    → running_order (program_of modules ps) (file planned) ≡ front ++ file planned ∷ []
    → (g x : Name) (qs : List Property)
    → Contains (items_until (program_of modules ps) front (file planned) (map item_of (filter (is_owned_in (file_with modules) (file planned)) ps))) (placed g (object_item x qs))
    → AreConstants l.world qs

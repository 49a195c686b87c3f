-- Laws of the files of the modules of a plan.
use Rattle.std.specs.Prelude.{◌≡◌, true, List, [], ◌∷◌, ◌++◌, Some, Contains}
use Rattle.std.specs.List.{list_all}
use Rattle.js_mean.specs.Files.{is_good_file, owner, running_order}
use Rattle.js_mean.specs.Shows.{File, IsRead}
use Rattle.js_tree.specs.Terms.{Name, Piece}
use Rattle.js_tree.specs.declared.items.Binding.{Binding}
use Rattle.proper_pieces.specs.EmittedMethods.{EmittedMethod}
use Rattle.proper_pieces.specs.Once.{DefinesOnce}
use Rattle.proper_pieces.specs.Pieces.{AreLinkedPieces}
use Rattle.module_names.specs.Names.{Key, Digest}
use Rattle.sj_emit_module_spec.specs.Laws.{Uses, AreClosed, IsSource}
use Rattle.sj_emit_module_spec.specs.Modules.{file_with, module_of}
use Rattle.sj_split_laws.specs.Laws.{KeepsNamesApart}
use Rattle.proper_pieces.specs.Laws.{AreNamed}
use Rattle.proper_pieces.specs.Modules.{module_of as module_of_pieces}
use Rattle.sj_graph.specs.References.{IsGraph}
use Rattle.sj_graph.specs.declared.graphs.Graph.{Graph}
use Rattle.sj_names.specs.EntryPoints.{AreEntries}
use Rattle.sj_names.specs.declared.entry_points.EntryPoint.{EntryPoint}
use Rattle.sj_split.specs.Modules.{IsPlan, file}
use Rattle.sj_split.specs.Orders.{Bytes}
use Rattle.sj_split.specs.declared.plans.PlannedModule.{PlannedModule}
use Rattle.sj_split.specs.declared.plans.Style.{Style}
use Rattle.sj_world.specs.Linked.{Linked}
use Rattle.worklist.specs.Paths.{Path}
use Rattle.module_files.specs.Files.{program_of, AreFilesOf, AreWhole, StandTogether, AreProper}

-- the module of a plan that has no other is that of the pieces that its classes own
abbrev pub LoneModulesAreOfPieces : Type 0
LoneModulesAreOfPieces = (planned : PlannedModule) (ps : List Piece) → module_of (planned ∷ []) planned ps ≡ module_of_pieces planned.classes ps planned.initializers

-- the files of the modules are read as their program
abbrev pub FilesAreRead : Type 0
FilesAreRead = (modules : List PlannedModule) (ps : List Piece) (files : List File) → AreFilesOf modules ps modules files → IsRead files (program_of modules ps)

-- the name of a piece belongs to the file in which the piece stands
abbrev pub NamesAreOwned : Type 0
NamesAreOwned = (modules : List PlannedModule) (ps : List Piece) → StandTogether modules ps → (p : Piece) (f : Bytes) → Contains ps p → file_with modules p.owner ≡ Some f → owner (program_of modules ps) f p.name ≡ Some f

-- a name that a file uses, by a piece or by the call of an initializer, belongs there to the file of its owner
abbrev pub UsesAreOwned : Type 0
UsesAreOwned = (modules : List PlannedModule) (ps : List Piece) → StandTogether modules ps → (f g : Bytes) (b : Binding) → Uses modules ps f b → file_with modules b.owner ≡ Some g → owner (program_of modules ps) f b.name ≡ Some g

-- in a plan for the graph of the pieces, where what files use is declared, it is of classes that stand in files
abbrev pub PlansAreWhole : Type 0
PlansAreWhole = (digest_of : Key → Digest) (graph : Graph) (entries : List EntryPoint) (style : Style) (modules : List PlannedModule) (ps : List Piece) → IsGraph ps graph → IsPlan digest_of graph entries style modules → AreClosed modules ps → AreWhole modules ps

-- each file is good
abbrev pub FilesAreGood : Type 0
FilesAreGood = (modules : List PlannedModule) (ps : List Piece) → AreProper modules ps → (m : PlannedModule) → Contains modules m → is_good_file (program_of modules ps) (file m) ≡ true

-- the files that a file reaches by imports are good
abbrev pub ReachedFilesAreGood : Type 0
ReachedFilesAreGood = (modules : List PlannedModule) (ps : List Piece) → AreProper modules ps → (m : PlannedModule) → Contains modules m → list_all (is_good_file (program_of modules ps)) (running_order (program_of modules ps) (file m)) ≡ true

-- in a plan for the graph of the pieces no imports lead from a file to another and back
abbrev pub ImportsGoInNoCircle : Type 0
ImportsGoInNoCircle = (digest_of : Key → Digest) (graph : Graph) (entries : List EntryPoint) (style : Style) (modules : List PlannedModule) (ps : List Piece)
    → AreEntries entries
    → KeepsNamesApart digest_of entries
    → IsGraph ps graph
    → IsPlan digest_of graph entries style modules
    → (f g : Bytes) → Path (IsSource modules ps) f g → Path (IsSource modules ps) g f → f ≡ g

-- in such a plan a file runs behind those from which it imports
abbrev pub ImportsRunFirst : Type 0
ImportsRunFirst = (digest_of : Key → Digest) (graph : Graph) (entries : List EntryPoint) (style : Style) (modules : List PlannedModule) (ps : List Piece)
    → AreEntries entries
    → KeepsNamesApart digest_of entries
    → IsGraph ps graph
    → IsPlan digest_of graph entries style modules
    → (m : PlannedModule)
    → Contains modules m
    → (front behind : List Name) (f g : Name)
    → running_order (program_of modules ps) (file m) ≡ front ++ f ∷ behind
    → IsSource modules ps f g
    → Contains front g

-- the pieces of a linked world, where what files use of them is declared, are proper
abbrev pub LinkedPiecesAreProper : Type 0
LinkedPiecesAreProper = (l : Linked) (all : List EmittedMethod) (ps : List Piece) (modules : List PlannedModule)
    → AreNamed l.world
    → ((e : EmittedMethod) → Contains all e → DefinesOnce e.definition e.its_body)
    → AreLinkedPieces l all ps
    → AreClosed modules ps
    → AreProper modules ps

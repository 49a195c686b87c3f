-- Laws of the modules of a plan.
use Rattle.std.specs.Prelude.{◌≡◌, ◌↔◌, ℕ, Bool, List, [], ◌∷◌, ◌++◌, Some, IsTrue, All, Contains, map, filter}
use Rattle.js_tree.specs.Names.{is_file}
use Rattle.js_tree.specs.Rules.{IsItem, IsPiece, IsModule}
use Rattle.js_tree.specs.Terms.{Name, Piece, Module}
use Rattle.js_tree.specs.declared.items.Binding.{Binding}
use Rattle.js_tree.specs.declared.items.JsImport.{JsImport}
use Rattle.module_names.specs.Names.{Key, Digest, sha1_digest}
use Rattle.sj_graph.specs.declared.graphs.Graph.{Graph}
use Rattle.sj_names.specs.EntryPoints.{AreEntries}
use Rattle.sj_names.specs.declared.entry_points.EntryPoint.{EntryPoint}
use Rattle.sj_split.specs.Modules.{IsPlan, file, is_among}
use Rattle.sj_split.specs.Orders.{Bytes, AreIncreasing}
use Rattle.sj_split.specs.declared.plans.PlannedModule.{PlannedModule}
use Rattle.sj_split.specs.declared.plans.Style.{Style}
use Rattle.sj_emit_module_spec.specs.Calls.{call_item_of, called}
use Rattle.sj_emit_module_spec.specs.Modules.{file_with, item_of, module_of, IsModuleOf}

-- a planned module has one module
abbrev pub ModulesAreOne : Type 0
ModulesAreOne = (modules : List PlannedModule) (which : ℕ) (ps : List Piece) (m n : Module) → IsModuleOf modules which ps m → IsModuleOf modules which ps n → m ≡ n

-- one of the modules has this class and this file
pub record IsIn (modules : List PlannedModule) (class : Name) (f : Bytes) : Type 0 where
  pub planned : PlannedModule
  pub among : Contains modules planned
  pub inside : Contains planned.classes class
  pub named : file planned ≡ f

-- in a plan a class stands in the file of the module that has it, and in no other
abbrev pub FilesAreThoseOfPlans : Type 0
FilesAreThoseOfPlans = (digest_of : Key → Digest) (graph : Graph) (entries : List EntryPoint) (style : Style) (modules : List PlannedModule) → IsPlan digest_of graph entries style modules → (class : Name) (f : Bytes) → (file_with modules class ≡ Some f) ↔ IsIn modules class f

-- its owner is one of these classes
abbrev pub is_owned : List Name → Piece → Bool
is_owned classes p = is_among classes p.owner

-- the pieces that some classes own, and the calls of some initializers
abbrev pub module_alone : List Name → List Piece → List EntryPoint → Module
module_alone classes ps entries = record { imports = []; items = map item_of (filter (is_owned classes) ps) ++ map call_item_of entries; exports = [] }

-- a module that is the only one has no such lines
abbrev pub LoneModulesHaveNoLines : Type 0
LoneModulesHaveNoLines = (planned : PlannedModule) (ps : List Piece) → module_of (planned ∷ []) planned ps ≡ module_alone planned.classes ps planned.initializers

-- exactly these, in byte order, each once
pub record AreThese (Is : Bytes → Type 0) (texts : List Bytes) : Type 0 where
  pub in_order : AreIncreasing texts
  pub exact : (x : Bytes) → Contains texts x ↔ Is x

-- a piece in this file uses the binding, or an initializer of a module with this file calls it
pub data Uses (modules : List PlannedModule) (ps : List Piece) (f : Bytes) : Binding → Type 0 where
  by_piece : (p : Piece) (b : Binding) → Contains ps p → file_with modules p.owner ≡ Some f → Contains p.uses b → Uses modules ps f b
  by_call : (m : PlannedModule) (e : EntryPoint) → Contains modules m → file m ≡ f → Contains m.initializers e → Uses modules ps f (called e)

-- the one file uses a binding of the other that has this name
pub record IsUse (modules : List PlannedModule) (ps : List Piece) (from to : Bytes) (x : Name) : Type 0 where
  pub binding : Binding
  pub used : Uses modules ps from binding
  pub bound : file_with modules binding.owner ≡ Some to
  pub named : binding.name ≡ x

-- the one file uses a binding of the other, and they are two
pub record IsSource (modules : List PlannedModule) (ps : List Piece) (from to : Bytes) : Type 0 where
  pub other : from ≡ to → ⊥
  pub name : Name
  pub uses : IsUse modules ps from to name

-- another file uses the binding of this one that has this name
pub record IsWanted (modules : List PlannedModule) (ps : List Piece) (to : Bytes) (x : Name) : Type 0 where
  pub from : Bytes
  pub other : from ≡ to → ⊥
  pub uses : IsUse modules ps from to x

abbrev pub source_of : JsImport → Bytes
source_of line = line.file

-- a line for each file of which bindings are used, with their names
pub record AreImportLines (modules : List PlannedModule) (ps : List Piece) (from : Bytes) (lines : List JsImport) : Type 0 where
  pub sources : AreThese (IsSource modules ps from) (map source_of lines)
  pub names : (line : JsImport) → Contains lines line → AreThese (IsUse modules ps from line.file) line.names

-- what the lines of a module are
pub record HasItsLines (modules : List PlannedModule) (planned : PlannedModule) (ps : List Piece) : Type 0 where
  pub imports : AreImportLines modules ps (file planned) (module_of modules planned ps).imports
  pub exports : AreThese (IsWanted modules ps (file planned)) (module_of modules planned ps).exports

abbrev pub ModulesHaveTheirLines : Type 0
ModulesHaveTheirLines = (modules : List PlannedModule) (planned : PlannedModule) (ps : List Piece) → HasItsLines modules planned ps

-- one of the modules has this file
pub record HasFile (modules : List PlannedModule) (f : Bytes) : Type 0 where
  pub planned : PlannedModule
  pub among : Contains modules planned
  pub named : file planned ≡ f

-- there is a module with this file, and with this file a module exports the name
pub record FindsExport (modules : List PlannedModule) (ps : List Piece) (f : Bytes) (x : Name) : Type 0 where
  pub there : HasFile modules f
  pub exports : (planned : PlannedModule) → file planned ≡ f → Contains (module_of modules planned ps).exports x

-- what a module imports is exported
abbrev pub ImportsFindExports : Type 0
ImportsFindExports = (modules : List PlannedModule) (planned : PlannedModule) (ps : List Piece) (line : JsImport) (x : Name) → Contains (module_of modules planned ps).imports line → Contains line.names x → FindsExport modules ps line.file x

-- the binding is the name of a piece that its owner owns
pub record IsDeclared (ps : List Piece) (b : Binding) : Type 0 where
  pub piece : Piece
  pub among : Contains ps piece
  pub owned : piece.owner ≡ b.owner
  pub named : piece.name ≡ b.name

-- what files use is declared
abbrev pub AreClosed : List PlannedModule → List Piece → Type 0
AreClosed modules ps = (f : Bytes) (b : Binding) → Uses modules ps f b → IsDeclared ps b

-- the name is that of a piece of the module
pub record IsNameIn (modules : List PlannedModule) (planned : PlannedModule) (ps : List Piece) (x : Name) : Type 0 where
  pub piece : Piece
  pub among : Contains ps piece
  pub stands : file_with modules piece.owner ≡ Some (file planned)
  pub named : piece.name ≡ x
  pub written : Contains (module_of modules planned ps).items piece.item

-- what a module of closed pieces exports it declares
abbrev pub ExportsAreDeclared : Type 0
ExportsAreDeclared = (modules : List PlannedModule) (planned : PlannedModule) (ps : List Piece) (x : Name) → AreClosed modules ps → Contains (module_of modules planned ps).exports x → IsNameIn modules planned ps x

-- where pieces, calls and files keep the rules of printing, so do modules
abbrev pub ModulesKeepRules : Type 0
ModulesKeepRules = (modules : List PlannedModule) (planned : PlannedModule) (ps : List Piece)
    → Contains modules planned
    → All IsPiece ps
    → ((m : PlannedModule) → Contains modules m → All IsItem (map call_item_of m.initializers))
    → ((m : PlannedModule) → Contains modules m → IsTrue (is_file (file m)))
    → IsModule (module_of modules planned ps)

-- in a plan of the entry points of a command each module has a file that import lines can name
abbrev pub PlansNameFiles : Type 0
PlansNameFiles = (graph : Graph) (entries : List EntryPoint) (style : Style) (modules : List PlannedModule) → AreEntries entries → IsPlan sha1_digest graph entries style modules → (m : PlannedModule) → Contains modules m → IsTrue (is_file (file m))

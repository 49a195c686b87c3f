-- The files of the modules of a plan, as the meaning of files has them.
use Rattle.std.specs.Prelude.{◌≡◌, true, List, [], ◌∷◌, Some, Contains, map}
use Rattle.js_mean.specs.Proper.{are_distinct, is_proper_item, item_names}
use Rattle.js_mean.specs.Shows.{File}
use Rattle.js_mean.specs.States.{Source, Program}
use Rattle.js_tree.specs.Spelling.{Spells}
use Rattle.js_tree.specs.Terms.{Name, Item, Piece}
use Rattle.js_tree.specs.declared.items.Binding.{Binding}
use Rattle.sj_emit_module_spec.specs.Laws.{Uses, AreClosed}
use Rattle.sj_emit_module_spec.specs.Modules.{file_with, module_of}
use Rattle.sj_split.specs.Modules.{file}
use Rattle.sj_split.specs.Orders.{Bytes}
use Rattle.sj_split.specs.declared.plans.PlannedModule.{PlannedModule}

module _ (modules : List PlannedModule) (ps : List Piece) where
  abbrev pub source_of : PlannedModule → Source
  source_of m = record { file = file m; content = Some (module_of modules m ps) }

  -- the program of the modules of a plan
  abbrev pub program_of : Program
  program_of = map source_of modules

  -- the file has the name of the module's, and spells it
  pub record IsFileOf (planned : PlannedModule) (one : File) : Type 0 where
    pub named : one.name ≡ file planned
    pub spelled : Spells (module_of modules planned ps) one.bytes

  -- a file for each of these modules
  abbrev pub AreFilesOf : List PlannedModule → List File → Type 0
  AreFilesOf [] [] = Unit {0}
  AreFilesOf (planned ∷ others) (one ∷ files) = IsFileOf planned one × AreFilesOf others files
  AreFilesOf _ _ = ⊥

  -- the class stands in one of the files
  pub record StandsIn (class : Name) : Type 0 where
    pub its_file : Bytes
    pub is : file_with modules class ≡ Some its_file

  -- what files use is of classes that stand in files
  abbrev pub AreWhole : Type 0
  AreWhole = (f : Bytes) (b : Binding) → Uses modules ps f b → StandsIn b.owner

abbrev pub piece_name : Piece → Name
piece_name p = p.name

-- no two pieces have one name
abbrev pub HaveOwnNames : List Piece → Type 0
HaveOwnNames ps = are_distinct (map piece_name ps) ≡ true

-- its item declares the name of the piece, and no other
abbrev pub DeclaresItself : Piece → Type 0
DeclaresItself p = (is : List Item) → item_names (p.item ∷ is) ≡ p.name ∷ item_names is

-- pieces with names of their own, of which what is used is there
pub record StandTogether (modules : List PlannedModule) (ps : List Piece) : Type 0 where
  pub closed : AreClosed modules ps
  pub names : HaveOwnNames ps

-- such pieces, which besides declare themselves and have no early error
pub record AreProper (modules : List PlannedModule) (ps : List Piece) : Type 0 where
  pub together : StandTogether modules ps
  pub declare : (p : Piece) → Contains ps p → DeclaresItself p
  pub proper : (p : Piece) → Contains ps p → is_proper_item p.item ≡ true

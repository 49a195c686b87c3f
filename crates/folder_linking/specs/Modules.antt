-- The files of modules.
use Rattle.std.specs.Prelude.{◌≡◌, ℕ, List, Some, slice_get}
use Rattle.std.specs.List.{Contains}
use Rattle.js_mean.specs.Shows.{File}
use Rattle.js_tree.specs.Rules.{IsModule}
use Rattle.js_tree.specs.Terms.{Piece}
use Rattle.linked_modules.specs.Files.{IsFileOf}
use Rattle.sj_emit_module_spec.specs.Modules.{module_of}
use Rattle.sj_emit_module.specs.Shares.{AreShares}
use Rattle.sj_emit_module.specs.declared.shares.Shares.{Shares}
use Rattle.sj_split.specs.declared.plans.PlannedModule.{PlannedModule}
use Rattle.folder_linking.specs.declared.files.ModuleFile.{ModuleFile}

-- the modules that are planned for the pieces keep the rules of printing
abbrev pub KeepRules : List PlannedModule → List Piece → Type 0
KeepRules modules ps = (planned : PlannedModule) → Contains modules planned → IsModule (module_of modules planned ps)

-- what modules share, of pieces for which the modules keep the rules of printing
pub record ArePrintableShares (modules : List PlannedModule) (shares : Shares) : Type 0 where
  pub pieces : List Piece
  pub are : AreShares modules pieces shares
  pub rules : KeepRules modules pieces

-- as the meaning of files has them
abbrev pub as_file : ModuleFile → File
as_file f = record { name = f.name; bytes = f.bytes }

-- the file of the planned module with this number
pub record IsFileAt (modules : List PlannedModule) (which : ℕ) (ps : List Piece) (f : ModuleFile) : Type 0 where
  pub planned : PlannedModule
  pub stands : slice_get modules which ≡ Some planned
  pub is : IsFileOf modules ps planned (as_file f)

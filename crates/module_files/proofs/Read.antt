-- The files of a plan are read as its program, and the file of a plan of one module is that of pieces.
use Rattle.std.proofs.Common.{List, [], ◌∷◌, Some, subst, map}
use Rattle.js_mean.specs.Shows.{File, IsRead, no_files, one_more}
use Rattle.js_tree.specs.Terms.{Piece}
use Rattle.sj_emit_module_spec.proofs.Alone.{alone}
use Rattle.sj_emit_module_spec.specs.Modules.{module_of}
use Rattle.sj_split.specs.Orders.{Bytes}
use Rattle.sj_split.specs.declared.plans.PlannedModule.{PlannedModule}
use Rattle.module_files.specs.Files.{source_of, AreFilesOf}
use Rattle.module_files.specs.Laws.{FilesAreRead, LoneModulesAreOfPieces}

read_each : (modules : List PlannedModule) (ps : List Piece) (ms : List PlannedModule) (fs : List File) → AreFilesOf modules ps ms fs → IsRead fs (map (source_of modules ps) ms)
read_each modules ps [] [] are = no_files
read_each modules ps [] (f ∷ fs) are = absurd are
read_each modules ps (m ∷ ms) [] are = absurd are
read_each modules ps (m ∷ ms) (f ∷ fs) are = subst (λ (n : Bytes). IsRead (f ∷ fs) (record { file = n; content = Some (module_of modules m ps) } ∷ map (source_of modules ps) ms)) are.0.named (one_more f (Some (module_of modules m ps)) fs (map (source_of modules ps) ms) are.0.spelled (read_each modules ps ms fs are.1))

pub files_are_read : FilesAreRead
files_are_read modules ps files are = read_each modules ps modules files are

pub lone_modules_are_of_pieces : LoneModulesAreOfPieces
lone_modules_are_of_pieces planned ps = alone planned ps

-- Laws of what is read of a folder.
use Rattle.std.specs.Prelude.{◌↔◌, List}
use Rattle.sj_names.specs.declared.entry_points.EntryPoint.{EntryPoint}
use Rattle.sj_names.specs.declared.folders.SourceFile.{SourceFile}
use Rattle.folder_judging_spec.specs.Verdicts.{Verdict, IsVerdict}
use Rattle.folder_files.specs.Files.{IsReadOf}

-- the verdict on what is read of a folder is that on the folder
abbrev pub VerdictOnWhatIsRead : Type 0
VerdictOnWhatIsRead = (entries : List EntryPoint) (files read : List SourceFile) (v : Verdict) → IsReadOf files read → IsVerdict entries read v ↔ IsVerdict entries files v

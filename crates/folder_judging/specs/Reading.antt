-- What is told of a file that isn't the file of a class.
use Rattle.std.specs.Prelude.{◌≡◌, ◌++◌, codes, decimal}
use Rattle.sj_names.specs.declared.folders.SourceFile.{SourceFile}
use Rattle.sj_trees.specs.Refusals.{number_of}
use Rattle.folder_judging_spec.specs.Stages.{HasFault}
use Rattle.folder_judging_spec.specs.Verdicts.{Verdict, refused}

-- the file fails, and this is told of it
pub record IsFaultOf (file : SourceFile) (v : Verdict) : Type 0 where
  pub fault : HasFault file
  pub told : v ≡ refused (number_of fault.code) (file.path ++ codes ":" ++ decimal fault.place)

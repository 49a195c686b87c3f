-- What is made of a folder, before a session takes it.
use Rattle.std.specs.Prelude.{◌≡◌, List, length, map}
use Rattle.std.specs.List.{Contains}
use Rattle.sj_agree.specs.Agrees.{Agrees}
use Rattle.sj_names.specs.declared.entry_points.EntryPoint.{EntryPoint}
use Rattle.sj_names.specs.declared.folders.SourceFile.{SourceFile}
use Rattle.sj_split.specs.Modules.{module_of}
use Rattle.sj_split.specs.Walks.{Id}
use Rattle.sj_split.specs.declared.plans.Style.{Style}
use Rattle.sj_world.specs.Known.{Classes}
use Rattle.folder_linking.specs.Verdicts.{accepted, IsVerdict}
use Rattle.folder_linking.specs.Accepted.{IsAccepted}
use Rattle.folder_linking.specs.Edits.{IsLinkOf, IsWork}
use Rattle.folder_linking.specs.Modules.{as_file}
use Rattle.sj_session.specs.Sessions.{work_told}
use Rattle.sj_session.specs.declared.editing.Edit.{Edit}

module _ (entries : List EntryPoint) (files : List SourceFile) (style : Style) where
  -- the folder is accepted, with these files and this report
  pub record IsEdit (edit : Edit) : Type 0 where
    pub verdict : IsVerdict entries files accepted
    pub linked : IsLinkOf entries files style (map as_file edit.files.items)
    pub modules : edit.report.modules ≡ length edit.files.items
    pub work : IsWork entries files (work_told edit.report)
    pub agrees : (w : Classes) (id : Id) → IsAccepted entries files w → Contains (map module_of entries) id → Agrees w entries (map as_file edit.files.items) id

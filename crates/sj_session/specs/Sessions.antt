-- Sessions, and what an edit makes of one.
use Rattle.std.specs.Prelude.{◌≡◌, false, List, [], Option, Some, None, Result, Ok, Err, length, map}
use Rattle.std.specs.List.{Contains}
use Rattle.sj_agree.specs.Agrees.{Agrees}
use Rattle.sj_names.specs.declared.counters.Meter.{Meter}
use Rattle.sj_names.specs.declared.entry_points.EntryPoint.{EntryPoint}
use Rattle.sj_names.specs.declared.folders.Folder.{Folder}
use Rattle.sj_split.specs.Modules.{module_of}
use Rattle.sj_split.specs.Walks.{Id}
use Rattle.sj_split.specs.declared.plans.Style.{Style}
use Rattle.sj_world.specs.Known.{Classes}
use Rattle.folder_linking.specs.Verdicts.{accepted, refused, IsVerdict}
use Rattle.folder_linking.specs.Accepted.{IsAccepted}
use Rattle.folder_linking.specs.Edits.{IsLinkOf, IsWork}
use Rattle.folder_linking.specs.Modules.{as_file}
use Rattle.folder_linking.specs.declared.files.ModuleFile.{ModuleFile}
use Rattle.sj_session.specs.declared.options.Options.{Options}
use Rattle.sj_session.specs.declared.answers.Report.{Report}
use Rattle.folder_judging.specs.declared.errors.JudgeError.{JudgeError}
use Rattle.folder_judging.specs.declared.errors.JudgeError.TheVariants.{Refused, NoMemory}

-- what a session stands on, the folder that was accepted last, if one was, and its files
pub record Standing : Type 0 where
  pub entries : List EntryPoint
  pub options : Options
  pub present : Option Folder
  pub files : List ModuleFile

-- the options that are built
pub record IsBuiltOption (options : Options) : Type 0 where
  pub plain : options.optimize ≡ false

-- the files are those that the present folder is linked to
abbrev pub AreFilesOf : List EntryPoint → Style → Option Folder → List ModuleFile → Type 0
AreFilesOf entries style None files = files ≡ []
AreFilesOf entries style (Some folder) files = IsLinkOf entries folder.files style (map as_file files)

-- the work that a report tells
abbrev pub work_told : Report → Meter
work_told r = record { read = r.read; checked = r.checked; optimised = r.optimised; emitted = r.emitted }

-- the session takes the folder, which is accepted, and its files
pub record IsTaken (old : Standing) (folder : Folder) (report : Report) (new : Standing) : Type 0 where
  pub verdict : IsVerdict old.entries folder.files accepted
  pub links : List ModuleFile
  pub linked : IsLinkOf old.entries folder.files old.options.style (map as_file links)
  pub taken : new ≡ record old { present = Some folder; files = links }
  pub modules : report.modules ≡ length links
  pub work : IsWork old.entries folder.files (work_told report)

-- what an edit answers and makes: it takes a folder that is accepted, and leaves the session as it was in any other case
abbrev pub Edits : Standing → Folder → Result Report JudgeError → Standing → Type 0
Edits old folder (Ok report) new = IsTaken old folder report new
Edits old folder (Err (Refused code place)) new = IsVerdict old.entries folder.files (refused code place) × (new ≡ old)
Edits old folder (Err NoMemory) new = new ≡ old

-- the files show of each public module what the folder's classes show
abbrev pub ShowTheSame : List EntryPoint → Folder → List ModuleFile → Type 0
ShowTheSame entries folder files = (w : Classes) (id : Id) → IsAccepted entries folder.files w → Contains (map module_of entries) id → Agrees w entries (map as_file files) id

-- What the program writes.
use Rattle.std.specs.Prelude.{◌≡◌, ℕ, ◌+◌, Bool, true, false, List, [], ◌∷◌, ◌++◌, Option, Some, None, Ok, Err, codes, decimal, length, map, slice_get, take, if◌then◌else◌, ⊤}
use Rattle.std.specs.List.{flat_map, list_all}
use Rattle.js_mean.specs.Shows.{File}
use Rattle.sj_names.specs.declared.counters.Meter.{Meter}
use Rattle.sj_names.specs.declared.entry_points.EntryPoint.{EntryPoint}
use Rattle.sj_names.specs.declared.folders.SourceFile.{SourceFile}
use Rattle.sj_outside.specs.Contents.{Parts}
use Rattle.sj_outside.specs.Writing.{Appends, Event, put, line, Writes, WritesFront}
use Rattle.sj_outside.specs.declared.answers.PutFile.{PutFile}
use Rattle.sj_split.specs.declared.plans.Style.{Style}
use Rattle.sj_words.specs.Earlier.{split_command}
use Rattle.sj_words.specs.declared.commands.Link.{Link}
use Rattle.folder_files.specs.Files.{AreFilesOf}
use Rattle.sj_session.specs.Verdicts.{accepted, refused, IsVerdict}
use Rattle.sj_session.specs.Edits.{IsLinkOf, IsWork}
use Rattle.sjslink.specs.Input.{IsLinkCommand, HasEntries, planned_style}
use Rattle.sjslink.specs.Puts.{put_of}
use Rattle.sjslink.specs.declared.answers.Status.{Status}
use Rattle.sjslink.specs.declared.answers.Status.TheVariants.{Done, SomeRefused, Usage, ReadFault, WriteFault, NoMemory, BadEntries}

pub record Output : Type 0 where
  pub status : Status
  pub events : List Event

abbrev pub usage_line : List ℕ
usage_line = codes "usage: sjslink link [--split fewest|smallest] [--optimize on|off] ENTRIES OUT FOLDER..\n"

abbrev pub entries_line : ℕ → List ℕ
entries_line number = codes "entries line " ++ (decimal number ++ codes "\n")

-- how much work an edit took
abbrev pub work_words : Meter → List ℕ
work_words work = codes "read=" ++ (decimal work.read ++ (codes " checked=" ++ (decimal work.checked ++ (codes " optimised=" ++ (decimal work.optimised ++ (codes " emitted=" ++ decimal work.emitted))))))

-- the line of an edit that is accepted: its number, how many files are put, and the work
abbrev pub accepted_line : ℕ → ℕ → Meter → List ℕ
accepted_line number modules work = codes "edit " ++ (decimal number ++ (codes " ok modules=" ++ (decimal modules ++ (codes " " ++ (work_words work ++ codes "\n")))))

-- the line of an edit that is refused: its number, the code and the place
abbrev pub refused_line : ℕ → ℕ → List ℕ → List ℕ
refused_line number code place = codes "edit " ++ (decimal number ++ (codes " refused " ++ (decimal code ++ (codes " " ++ (place ++ codes "\n")))))

abbrev pub puts_of : List ℕ → ℕ → List File → List Event
puts_of out number files = map (λ f. put (put_of out number f)) files

-- what is written for an edit, and whether it is accepted
pub record Edited : Type 0 where
  pub is_accepted : Bool
  pub events : List Event

-- what is written for the edit of this number, of a folder of these files: the files that it is linked to in this style and a line, or a line alone
pub data IsEditOutput (out : List ℕ) (entries : List EntryPoint) (style : Style) (number : ℕ) (files : List SourceFile) : Edited → Type 0 where
  linked : (links : List File) (work : Meter) → IsVerdict entries files accepted → IsLinkOf entries files style links → IsWork entries files work → IsEditOutput out entries style number files (record { is_accepted = true; events = puts_of out number links ++ line (accepted_line number (length links) work) ∷ [] })
  refuses : (code : ℕ) (place : List ℕ) → IsVerdict entries files (refused code place) → IsEditOutput out entries style number files (record { is_accepted = false; events = line (refused_line number code place) ∷ [] })

-- the same of the folder at a path
pub record IsEdited (contents : Parts) (out : List ℕ) (entries : List EntryPoint) (style : Style) (number : ℕ) (path : List ℕ) (edited : Edited) : Type 0 where
  pub files : List SourceFile
  pub is_folder : AreFilesOf contents path files
  pub is_output : IsEditOutput out entries style number files edited

-- one edit for each folder, numbered from 1
pub record AreEdited (contents : Parts) (out : List ℕ) (entries : List EntryPoint) (style : Style) (paths : List (List ℕ)) (edits : List Edited) : Type 0 where
  pub whole : length edits ≡ length paths
  pub each : (i : ℕ) (path : List ℕ) (edited : Edited) → slice_get paths i ≡ Some path → slice_get edits i ≡ Some edited → IsEdited contents out entries style (i + 1) path edited

abbrev pub events_of : Edited → List Event
events_of e = e.events

abbrev pub was_accepted : Edited → Bool
was_accepted e = e.is_accepted

abbrev pub status_of : List Edited → Status
status_of edits = if list_all was_accepted edits then Done else SomeRefused

-- what the words ask for, over what the folders hold
pub data IsOutput (words : List (List ℕ)) (contents : Parts) : Output → Type 0 where
  no_command : split_command words ≡ None → IsOutput words contents (record { status = Usage; events = line usage_line ∷ [] })
  bad_entries : (link : Link) (number : ℕ) → IsLinkCommand words link → HasEntries contents link.entries (Err number) → IsOutput words contents (record { status = BadEntries number; events = line (entries_line number) ∷ [] })
  edited : (link : Link) (entries : List EntryPoint) (edits : List Edited) → IsLinkCommand words link → HasEntries contents link.entries (Ok entries) → AreEdited contents link.out entries (planned_style link.style) link.folders edits → IsOutput words contents (record { status = status_of edits; events = flat_map events_of edits })

-- the fact, unless the call ended early: by a fault or for want of memory
abbrev pub AtEnd : Status → Type 0 → Type 0
AtEnd ReadFault P = ⊤
AtEnd WriteFault P = ⊤
AtEnd NoMemory P = ⊤
AtEnd Done P = P
AtEnd SomeRefused P = P
AtEnd Usage P = P
AtEnd (BadEntries n) P = P

-- How a call ended that writes something: with this status where all was written, or early, by a fault with a cause or for
-- want of memory.
pub data Ends (done : Status) (whole front cause : Type 0) : Status → Type 0 where
  all_written : whole → Ends done whole front cause done
  faulted : front → cause → Ends done whole front cause WriteFault
  out_of_memory : front → Ends done whole front cause NoMemory

-- How a run ended that puts nothing and prints one line.
abbrev pub EndsWithLine : Status → Option (List PutFile) → Option (List PutFile) → Option (List ℕ) → Option (List ℕ) → List ℕ → Type 0 → Status → Type 0
EndsWithLine done puts_old puts_new text_old text_new text cause status = Ends done (Appends puts_old puts_new [] × Appends text_old text_new text) (Appends puts_old puts_new [] × Appends text_old text_new []) cause status

-- the whole output was written, and this is the status of it
pub record IsWhole (words : List (List ℕ)) (contents : Parts) (puts_old puts_new : Option (List PutFile)) (text_old text_new : Option (List ℕ)) (status : Status) : Type 0 where
  pub output : Output
  pub is_output : IsOutput words contents output
  pub is_status : status ≡ output.status
  pub written : Writes puts_old puts_new text_old text_new output.events

-- what was written is nothing, or a front of the output, or of what is written for the first folders of the command
pub data IsFront (words : List (List ℕ)) (contents : Parts) (puts_old puts_new : Option (List PutFile)) (text_old text_new : Option (List ℕ)) : Type 0 where
  nothing : Writes puts_old puts_new text_old text_new [] → IsFront words contents puts_old puts_new text_old text_new
  front_of : (output : Output) → IsOutput words contents output → WritesFront puts_old puts_new text_old text_new output.events → IsFront words contents puts_old puts_new text_old text_new
  of_first : (link : Link) (entries : List EntryPoint) (n : ℕ) (edits : List Edited) → IsLinkCommand words link → HasEntries contents link.entries (Ok entries) → AreEdited contents link.out entries (planned_style link.style) (take n link.folders) edits → WritesFront puts_old puts_new text_old text_new (flat_map events_of edits) → IsFront words contents puts_old puts_new text_old text_new

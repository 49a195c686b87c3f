-- How the parts of a run end.
use Rattle.std.specs.Prelude.{◌≡◌, ◌⊎◌, ◌≤◌, ℕ, Bool, List, [], Option, Result, Ok, Err, IsTrue, is_some, length, map, take, ⊤}
use Rattle.std.specs.List.{Contains, flat_map, list_all}
use Rattle.js_mean.specs.Shows.{File}
use Rattle.sj_names.specs.declared.entry_points.EntryPoint.{EntryPoint}
use Rattle.sj_names.specs.declared.folders.SourceFile.{SourceFile}
use Rattle.sj_outside.specs.Contents.{Parts, folder_at}
use Rattle.sj_outside.specs.Faults.{Rose}
use Rattle.sj_outside.specs.Writing.{put_in, Writes, WritesFront}
use Rattle.sj_outside.specs.declared.answers.PutFile.{PutFile}
use Rattle.sj_split.specs.declared.plans.Style.{Style}
use Rattle.sjslink.specs.Output.{Edited, IsEditOutput, AreEdited, events_of, was_accepted, AtEnd, IsWhole, IsFront}
use Rattle.sjslink.specs.Headline.{Answer, IsAnswer, AreAnswers, puts_for, puts_from, ShowsTheSame, ShowsPrefix}
use Rattle.sjslink.specs.declared.answers.Status.{Status}
use Rattle.sjslink.specs.declared.answers.Status.TheVariants.{Done, SomeRefused}
use Rattle.sjslink.specs.declared.editing.Fault.{Fault}
use Rattle.sjslink.specs.declared.editing.Fault.TheVariants.{Read, Write, NoMemory}
use Rattle.sjslink.specs.declared.entries.NoEntries.{NoEntries}

-- how a call ended early that writes something: a front was written, and a fault has a cause
abbrev pub WrittenCut : Type 0 → Type 0 → Fault → Type 0
WrittenCut front cause Read = ⊥
WrittenCut front cause Write = front × cause
WrittenCut front cause NoMemory = front

-- how a call ended that writes something: all was written, or the call ended early
abbrev pub Written : Type 0 → Type 0 → Type 0 → Result (Unit {0}) Fault → Type 0
Written whole front cause (Ok done) = whole
Written whole front cause (Err fault) = WrittenCut front cause fault

-- a result that is of the entries file is what the file says
abbrev pub Says : (Result (List EntryPoint) ℕ → Type 0) → Result (List EntryPoint) NoEntries → Type 0
Says said (Ok entries) = said (Ok entries)
Says said (Err (NoEntries.BadLine number)) = said (Err number)
Says said (Err NoEntries.ReadFault) = ⊤
Says said (Err NoEntries.NoMemory) = ⊤

-- a count of faults never falls, and rose where the entries file could not be read
pub record HasReadCause (old new : ℕ) (result : Result (List EntryPoint) NoEntries) : Type 0 where
  pub never_falls : old ≤ new
  pub failed : result ≡ Err NoEntries.ReadFault → Rose old new

module _ (out : List ℕ) (entries : List EntryPoint) (style : Style) (number : ℕ) (files : List SourceFile) where
  -- what is written for the edit of a folder of these files, with the answer to the folder
  pub record IsShownEdit (edited : Edited) : Type 0 where
    pub is_output : IsEditOutput out entries style number files edited
    pub answer : Answer
    pub is_answer : IsAnswer entries style files answer
    pub put : flat_map put_in edited.events ≡ puts_for out number answer

  module _ (puts_old puts_new : Option (List PutFile)) (text_old text_new : Option (List ℕ)) where
    -- it was written, and the folder was accepted or not
    pub record IsEditWritten (is_accepted : Bool) : Type 0 where
      pub edited : Edited
      pub is_edit : IsShownEdit edited
      pub accepted : is_accepted ≡ edited.is_accepted
      pub written : Writes puts_old puts_new text_old text_new edited.events

    -- nothing was written, or a front of it
    pub data IsEditCut : Type 0 where
      nothing : Writes puts_old puts_new text_old text_new [] → IsEditCut
      front_of : (edited : Edited) → IsShownEdit edited → WritesFront puts_old puts_new text_old text_new edited.events → IsEditCut

    -- how an edit of the folder ends
    abbrev pub EditEnds : Result Bool Fault → Type 0
    EditEnds (Ok is_accepted) = IsEditWritten is_accepted
    EditEnds (Err Read) = ⊥
    EditEnds (Err Write) = IsEditCut
    EditEnds (Err NoMemory) = IsEditCut

-- each folder is held
abbrev pub AreHeld : Parts → List (List ℕ) → Type 0
AreHeld contents folders = (path : List ℕ) → Contains folders path → IsTrue (is_some (folder_at contents path))

module _ (contents : Parts) (out : List ℕ) (entries : List EntryPoint) (style : Style) (folders : List (List ℕ)) where
  -- the edits of the first folders, and the answers to these
  pub record FirstEdits (n : ℕ) : Type 0 where
    pub edits : List Edited
    pub are_edited : AreEdited contents out entries style (take n folders) edits
    pub answers : List Answer
    pub are_answers : AreAnswers contents entries style (take n folders) answers
    pub put : flat_map put_in (flat_map events_of edits) ≡ puts_from out 1 answers

  module _ (puts_old puts_new : Option (List PutFile)) (text_old text_new : Option (List ℕ)) where
    -- what is written for the first folders was written
    pub record AreWritten (n : ℕ) (all_accepted : Bool) : Type 0 where
      pub first : FirstEdits n
      pub all : all_accepted ≡ list_all was_accepted first.edits
      pub written : Writes puts_old puts_new text_old text_new (flat_map events_of first.edits)

    -- a front was written of what is written for the first folders
    pub record AreCut : Type 0 where
      pub n : ℕ
      pub first : FirstEdits n
      pub front : WritesFront puts_old puts_new text_old text_new (flat_map events_of first.edits)

    -- how the edits of all folders end
    abbrev pub EditsEnd : Result Bool Fault → Type 0
    EditsEnd (Ok all_accepted) = AreWritten (length folders) all_accepted
    EditsEnd (Err fault) = AreCut

-- how a run ends over what the folders hold
pub record RunEnds (words : List (List ℕ)) (contents : Parts) (puts_old puts_new : Option (List PutFile)) (text_old text_new : Option (List ℕ)) (status : Status) : Type 0 where
  pub whole : AtEnd status (IsWhole words contents puts_old puts_new text_old text_new status)
  pub front : IsFront words contents puts_old puts_new text_old text_new
  pub agrees : (status ≡ Done) ⊎ (status ≡ SomeRefused) → ShowsTheSame words contents puts_old puts_new
  pub shown : ShowsPrefix words contents puts_old puts_new

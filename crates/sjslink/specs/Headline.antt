-- The headline: which files a link command puts for its folders, and what these show.
use Rattle.std.specs.Prelude.{◌≡◌, ℕ, ◌+◌, List, [], ◌∷◌, ◌++◌, Option, Some, Ok, length, map, slice_get, take}
use Rattle.std.specs.List.{Contains}
use Rattle.js_mean.specs.Shows.{File}
use Rattle.sj_agree.specs.Agrees.{Agrees}
use Rattle.sj_names.specs.declared.entry_points.EntryPoint.{EntryPoint}
use Rattle.sj_names.specs.declared.folders.SourceFile.{SourceFile}
use Rattle.sj_outside.specs.Contents.{Parts}
use Rattle.sj_outside.specs.Writing.{Appends}
use Rattle.sj_outside.specs.declared.answers.PutFile.{PutFile}
use Rattle.sj_split.specs.Modules.{module_of}
use Rattle.sj_split.specs.Walks.{Id}
use Rattle.sj_split.specs.declared.plans.Style.{Style}
use Rattle.sj_words.specs.declared.commands.Link.{Link}
use Rattle.sj_world.specs.Known.{Classes}
use Rattle.folder_files.specs.Files.{AreFilesOf}
use Rattle.sj_session.specs.Accepted.{IsAccepted}
use Rattle.sj_session.specs.Edits.{IsLinkOf}
use Rattle.sj_session.specs.Verdicts.{accepted, refused, IsVerdict}
use Rattle.sjslink.specs.Input.{IsLinkCommand, HasEntries, planned_style}
use Rattle.sjslink.specs.Puts.{put_of}

-- files are those that an accepted folder is linked to in this style, and show of each public module what its classes show
pub record ShowFolder (entries : List EntryPoint) (style : Style) (files : List SourceFile) (links : List File) : Type 0 where
  pub world : Classes
  pub is_accepted : IsAccepted entries files world
  pub linked : IsLinkOf entries files style links
  pub agrees : (id : Id) → Contains (map module_of entries) id → Agrees world entries links id

-- the answer to a folder: the files that it is linked to, or the code and the place of its refusal
pub data Answer : Type 0 where
  linked_to : List File → Answer
  refused_with : ℕ → List ℕ → Answer

pub data IsAnswer (entries : List EntryPoint) (style : Style) (files : List SourceFile) : Answer → Type 0 where
  is_linked : (links : List File) → IsVerdict entries files accepted → ShowFolder entries style files links → IsAnswer entries style files (linked_to links)
  is_refused : (code : ℕ) (place : List ℕ) → IsVerdict entries files (refused code place) → IsAnswer entries style files (refused_with code place)

-- the answer to the folder at a path
pub record IsAnswerAt (contents : Parts) (entries : List EntryPoint) (style : Style) (path : List ℕ) (answer : Answer) : Type 0 where
  pub files : List SourceFile
  pub is_folder : AreFilesOf contents path files
  pub is_answer : IsAnswer entries style files answer

-- one answer to each folder, in their order
pub record AreAnswers (contents : Parts) (entries : List EntryPoint) (style : Style) (paths : List (List ℕ)) (answers : List Answer) : Type 0 where
  pub whole : length answers ≡ length paths
  pub each : (i : ℕ) (path : List ℕ) (answer : Answer) → slice_get paths i ≡ Some path → slice_get answers i ≡ Some answer → IsAnswerAt contents entries style path answer

-- what is put for the answer to the folder of this number: its files, and nothing where it is refused
abbrev pub puts_for : List ℕ → ℕ → Answer → List PutFile
puts_for out number (linked_to links) = map (put_of out number) links
puts_for out number (refused_with code place) = []

-- what is put for answers, the first of which is to the folder of this number
abbrev pub puts_from : List ℕ → ℕ → List Answer → List PutFile
puts_from out number [] = []
puts_from out number (answer ∷ answers) = puts_for out number answer ++ puts_from out (number + 1) answers

-- each folder of the command has its answer, and what was put are the files of those that are accepted, in their order
pub record AllAreLinked (contents : Parts) (link : Link) (puts_old puts_new : Option (List PutFile)) : Type 0 where
  pub entries : List EntryPoint
  pub has_entries : HasEntries contents link.entries (Ok entries)
  pub answers : List Answer
  pub are_answers : AreAnswers contents entries (planned_style link.style) link.folders answers
  pub put : Appends puts_old puts_new (puts_from link.out 1 answers)

-- what was put is nothing, or a prefix of the files of the first folders of the command
pub data FirstAreLinked (contents : Parts) (link : Link) (puts_old puts_new : Option (List PutFile)) : Type 0 where
  none_put : Appends puts_old puts_new [] → FirstAreLinked contents link puts_old puts_new
  prefix_put : (entries : List EntryPoint) → HasEntries contents link.entries (Ok entries) → (n : ℕ) (answers : List Answer) → AreAnswers contents entries (planned_style link.style) (take n link.folders) answers → (prefix rest : List PutFile) → prefix ++ rest ≡ puts_from link.out 1 answers → Appends puts_old puts_new prefix → FirstAreLinked contents link puts_old puts_new

-- The headline, where the words are a link command: of a run that has answered all folders, and of any.
abbrev pub ShowsTheSame : List (List ℕ) → Parts → Option (List PutFile) → Option (List PutFile) → Type 0
ShowsTheSame words contents puts_old puts_new = (link : Link) → IsLinkCommand words link → AllAreLinked contents link puts_old puts_new

abbrev pub ShowsPrefix : List (List ℕ) → Parts → Option (List PutFile) → Option (List PutFile) → Type 0
ShowsPrefix words contents puts_old puts_new = (link : Link) → IsLinkCommand words link → FirstAreLinked contents link puts_old puts_new

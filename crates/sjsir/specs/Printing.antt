-- What the parts of printing and making answer, over folders that tell what they hold.
use Rattle.std.specs.Prelude.{◌≡◌, ℕ, ◌≤◌, List, [], ◌++◌, Bool, Option, Some, Result, Ok, Err, ⊤, IsTrue, is_some, All, None}
use Rattle.std.specs.List.{flat_map}
use Rattle.sj_outside.specs.Contents.{Parts, file_at}
use Rattle.sj_outside.specs.Faults.{Rose}
use Rattle.sj_outside.specs.Writing.{Appends}
use Rattle.sj_outside.specs.declared.answers.OutsideError.{OutsideError}
use Rattle.sj_outside.specs.declared.answers.OutsideError.TheVariants as Outside
use Rattle.sjsir.specs.Command.{Command, print, make, help, version}
use Rattle.sjsir.specs.Output.{IsFileLine, AreFileLines, status_of}
use Rattle.sjsir.specs.declared.answers.Status.{Status}
use Rattle.sjsir.specs.declared.answers.Status.TheVariants as Status
use Rattle.sjsir.specs.declared.stops.Stop.{Stop}
use Rattle.sjsir.specs.declared.stops.Stop.TheVariants.{ReadFault, WriteFault, NoMemory}

-- what a refusal of reading comes to
abbrev pub read_stop : OutsideError → Stop
read_stop Outside.Failed = ReadFault
read_stop Outside.NoMemory = NoMemory

abbrev pub write_stop : OutsideError → Stop
write_stop Outside.Failed = WriteFault
write_stop Outside.NoMemory = NoMemory

abbrev pub status_after : Stop → Status
status_after ReadFault = Status.ReadFault
status_after WriteFault = Status.WriteFault
status_after NoMemory = Status.NoMemory

-- the line of a file, and whether it is a listing
abbrev pub IsLineOf : Parts → List ℕ → Bool → List ℕ → Type 0
IsLineOf contents path listed text = (bytes : List ℕ) × (file_at contents path ≡ Some bytes) × IsFileLine path bytes listed text

-- one line was printed, or nothing
abbrev pub PrintsOne : Parts → List ℕ → Option (List ℕ) → Option (List ℕ) → Result Bool Stop → Type 0
PrintsOne contents path old new (Ok listed) = (text : List ℕ) × IsLineOf contents path listed text × Appends old new text
PrintsOne contents path old new (Err stop) = Appends old new []

-- the lines of these files were printed
pub record HasPrinted (contents : Parts) (files : List (List ℕ)) (all : Bool) (old new : Option (List ℕ)) : Type 0 where
  pub texts : List (List ℕ)
  pub are : AreFileLines contents files all texts
  pub written : Appends old new (flat_map (λ text. text) texts)

-- the lines of all files were printed, or those of the first of them
pub data PrintsAll (contents : Parts) (files : List (List ℕ)) (old new : Option (List ℕ)) : Status → Type 0 where
  all_printed : (all : Bool) → HasPrinted contents files all old new → PrintsAll contents files old new (status_of all)
  stopped : (front others : List (List ℕ)) (all : Bool) (stop : Stop) → files ≡ front ++ others → HasPrinted contents front all old new → PrintsAll contents files old new (status_after stop)

-- each fault has its cause
pub record HasCauses (folders_old folders_new lines_old lines_new : ℕ) (status : Status) : Type 0 where
  pub reads_never_fall : folders_old ≤ folders_new
  pub writes_never_fall : lines_old ≤ lines_new
  pub read_fault : status ≡ Status.ReadFault → Rose folders_old folders_new
  pub write_fault : status ≡ Status.WriteFault → Rose lines_old lines_new

-- a fault is counted, and the count never falls
pub record HasCause (fails : Type 0) (old new : ℕ) : Type 0 where
  pub never_falls : old ≤ new
  pub rose : fails → Rose old new

-- want of memory is the only error
abbrev pub IsMemoryAlone : {A : Type 0} → Result A Stop → Type 0
IsMemoryAlone (Ok value) = ⊤
IsMemoryAlone (Err stop) = stop ≡ NoMemory

-- each of the files is there
abbrev pub AreHeld : Parts → List (List ℕ) → Type 0
AreHeld contents files = All (λ path. IsTrue (is_some (file_at contents path))) files

-- the folders have what the words name; words that are no command name nothing
abbrev pub HasNamed : Parts → Option Command → Type 0
HasNamed contents None = ⊤
HasNamed contents (Some help) = ⊤
HasNamed contents (Some version) = ⊤
HasNamed contents (Some (print files)) = AreHeld contents files
HasNamed contents (Some (make listing out)) = IsTrue (is_some (file_at contents listing))

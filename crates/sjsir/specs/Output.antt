-- What the program writes.
use Rattle.std.specs.Prelude.{◌≡◌, ℕ, List, [], ◌∷◌, ◌++◌, Bool, true, false, ◌&&◌, map, Option, Some, None, codes, decimal, ⊤}
use Rattle.exact_place.specs.Place.{Place}
use Rattle.sj_trees.specs.declared.classes.ClassDef.{ClassDef}
use Rattle.sj_outside.specs.Contents.{Parts, file_at}
use Rattle.sj_outside.specs.Words.{without_line_feed}
use Rattle.sj_outside.specs.Writing.{Event, put, line, Writes, WritesFront}
use Rattle.sj_outside.specs.declared.answers.PutFile.{PutFile}
use Rattle.sj_trees.specs.declared.refusals.Reserved.{Reserved}
use Rattle.sj_trees.specs.declared.refusals.Code.{Code}
use Rattle.sj_trees.specs.Refusals.{number_of, reserved_of, name_of}
use Rattle.sj_read_spec.specs.Files.{FileIs, Fails}
use Rattle.sj_text_spec.specs.Spelling.{Lists}
use Rattle.sj_text_spec.specs.Rules.{bare}
use Rattle.sj_write_spec.specs.Written.{written_class}
use Rattle.sjsir.specs.Nesting.{is_deep}
use Rattle.sjsir.specs.Command.{help, version, print, make, command}
use Rattle.sjsir.specs.declared.answers.Status.{Status}
use Rattle.sjsir.specs.declared.answers.Status.TheVariants.{Done, SomeRefused, Usage, ReadFault, WriteFault, NoMemory}

pub record Output : Type 0 where
  pub status : Status
  pub events : List Event

abbrev pub usage_line : List ℕ
usage_line = codes "usage: sjsir print FILE.. | make LISTING OUT | --help | --version\n"

abbrev pub help_text : List ℕ
help_text = codes "usage: sjsir print FILE.. | make LISTING OUT | --help | --version\n\nprint  prints each class file as one line, its listing\nmake   writes the class file of the listing in LISTING as OUT\n"

abbrev pub version_line : List ℕ
version_line = codes "sjsir 0.1.0\n"

-- where nothing was refused, and where something was
abbrev pub status_of : Bool → Status
status_of true = Done
status_of false = SomeRefused

-- ---- print

-- the form that a file has and that isn't supported, with a space in front
abbrev pub form_words : Option Reserved → List ℕ
form_words None = []
form_words (Some form) = codes " " ++ name_of form

-- the line of a file that is refused: `FILE refused CODE OFFSET`, and the form where there is one
abbrev pub refusal_line : List ℕ → Code → ℕ → List ℕ
refusal_line path code place = path ++ (codes " refused " ++ (decimal (number_of code) ++ (codes " " ++ (decimal place ++ (form_words (reserved_of code) ++ codes "\n")))))

-- the line of a file, and whether it is a listing
pub data IsFileLine (path bytes : List ℕ) : Bool → List ℕ → Type 0 where
  listed : (class : ClassDef) (text : List ℕ) → FileIs bytes class → Lists (bare class) text → IsFileLine path bytes true (text ++ codes "\n")
  refused : (code : Code) (place : ℕ) → Fails bytes code place → IsFileLine path bytes false (refusal_line path code place)

-- the lines of files, in their order, and whether each is a listing
pub data AreFileLines (contents : Parts) : List (List ℕ) → Bool → List (List ℕ) → Type 0 where
  no_file : AreFileLines contents [] true []
  first_file : (path bytes text : List ℕ) (paths texts : List (List ℕ)) (well all : Bool) → file_at contents path ≡ Some bytes → IsFileLine path bytes well text → AreFileLines contents paths all texts → AreFileLines contents (path ∷ paths) (well && all) (text ∷ texts)

-- ---- make

-- the line where a text is no listing: `refused OFFSET`
abbrev pub no_listing_line : ℕ → List ℕ
no_listing_line place = codes "refused " ++ (decimal place ++ codes "\n")

-- the line where no class file has the class of the listing
abbrev pub no_file_line : List ℕ
no_file_line = codes "refused: no class file has this class\n"

-- the line where the text of a listing is too deep
abbrev pub too_deep_line : List ℕ
too_deep_line = codes "refused: more than 600 parentheses stand one in another\n"

-- the bytes are the file of a class that the text lists
abbrev pub IsFileOf : List ℕ → List ℕ → Type 0
IsFileOf text bytes = (class : ClassDef) × FileIs bytes class × Lists (bare class) text

-- the file of the class, put right into the working folder under the name that the words give
abbrev pub class_put : List ℕ → ClassDef → PutFile
class_put out class = record { out = codes "."; edit = 1; name = out; bytes = written_class class }

-- what the words ask for, over what the folders hold
pub data IsOutput (words : List (List ℕ)) (contents : Parts) : Output → Type 0 where
  no_command : command words ≡ None → IsOutput words contents (record { status = Usage; events = line usage_line ∷ [] })
  helped : command words ≡ Some help → IsOutput words contents (record { status = Done; events = line help_text ∷ [] })
  versioned : command words ≡ Some version → IsOutput words contents (record { status = Done; events = line version_line ∷ [] })
  printed : (files texts : List (List ℕ)) (all : Bool) → command words ≡ Some (print files) → AreFileLines contents files all texts → IsOutput words contents (record { status = status_of all; events = map (λ text. line text) texts })
  made : (listing out bytes : List ℕ) (class : ClassDef) → command words ≡ Some (make listing out) → file_at contents listing ≡ Some bytes → is_deep (without_line_feed bytes) ≡ false → Lists class (without_line_feed bytes) → IsFileOf (without_line_feed bytes) (written_class class) → IsOutput words contents (record { status = Done; events = put (class_put out class) ∷ [] })
  no_listing : (listing out bytes : List ℕ) (place : ℕ) → command words ≡ Some (make listing out) → file_at contents listing ≡ Some bytes → is_deep (without_line_feed bytes) ≡ false → ((class : ClassDef) → Lists class (without_line_feed bytes) → ⊥) → Place Lists (without_line_feed bytes) place → IsOutput words contents (record { status = SomeRefused; events = line (no_listing_line place) ∷ [] })
  no_class_file : (listing out bytes : List ℕ) (class : ClassDef) → command words ≡ Some (make listing out) → file_at contents listing ≡ Some bytes → is_deep (without_line_feed bytes) ≡ false → Lists class (without_line_feed bytes) → (IsFileOf (without_line_feed bytes) (written_class class) → ⊥) → ((file : List ℕ) → FileIs file class → ⊥) → IsOutput words contents (record { status = SomeRefused; events = line no_file_line ∷ [] })
  too_deep : (listing out bytes : List ℕ) → command words ≡ Some (make listing out) → file_at contents listing ≡ Some bytes → is_deep (without_line_feed bytes) ≡ true → IsOutput words contents (record { status = SomeRefused; events = line too_deep_line ∷ [] })

-- ---- how a run ends

-- the fact, unless the run ended early: by a fault or for want of memory
abbrev pub AtEnd : Status → Type 0 → Type 0
AtEnd ReadFault P = ⊤
AtEnd WriteFault P = ⊤
AtEnd NoMemory P = ⊤
AtEnd Done P = P
AtEnd SomeRefused P = P
AtEnd Usage P = P

-- the whole output was written, and this is the status of it
pub record IsWhole (words : List (List ℕ)) (contents : Parts) (puts_old puts_new : Option (List PutFile)) (text_old text_new : Option (List ℕ)) (status : Status) : Type 0 where
  pub output : Output
  pub is_output : IsOutput words contents output
  pub is_status : status ≡ output.status
  pub written : Writes puts_old puts_new text_old text_new output.events

-- what was written is nothing, a front of the output, or the lines of the first files
pub data IsFront (words : List (List ℕ)) (contents : Parts) (puts_old puts_new : Option (List PutFile)) (text_old text_new : Option (List ℕ)) : Type 0 where
  nothing : Writes puts_old puts_new text_old text_new [] → IsFront words contents puts_old puts_new text_old text_new
  front_of : (output : Output) → IsOutput words contents output → WritesFront puts_old puts_new text_old text_new output.events → IsFront words contents puts_old puts_new text_old text_new
  first_lines : (files others texts : List (List ℕ)) (all : Bool) → command words ≡ Some (print (files ++ others)) → AreFileLines contents files all texts → Writes puts_old puts_new text_old text_new (map (λ text. line text) texts) → IsFront words contents puts_old puts_new text_old text_new

-- there is one output at most
abbrev pub HasOneOutput : Type 0
HasOneOutput = (words : List (List ℕ)) (contents : Parts) (one other : Output) → IsOutput words contents one → IsOutput words contents other → one ≡ other

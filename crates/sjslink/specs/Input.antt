-- What a link command reads.
use Rattle.std.specs.Prelude.{◌≡◌, ℕ, List, Some, Result, IsTrue, is_some}
use Rattle.std.specs.List.{Contains}
use Rattle.entries_file.specs.EntriesFile.{entries_of}
use Rattle.sj_names.specs.declared.entry_points.EntryPoint.{EntryPoint}
use Rattle.sj_outside.specs.Contents.{Parts, folder_at, file_at}
use Rattle.sj_split.specs.declared.plans.Style.{Style}
use Rattle.sj_split.specs.declared.plans.Style.TheVariants.{Fewest, Smallest}
use Rattle.sj_words.specs.Earlier.{split_command}
use Rattle.sj_words.specs.declared.commands.Command.{Command}
use Rattle.sj_words.specs.declared.commands.Link.{Link}
use Rattle.sj_words.specs.declared.commands.Style as named

-- the words are this link command
abbrev pub IsLinkCommand : List (List ℕ) → Link → Type 0
IsLinkCommand words link = split_command words ≡ Some (Command.Link link)

-- the style of plans that a command names
abbrev pub planned_style : named.Style → Style
planned_style named.Style.Fewest = Fewest
planned_style named.Style.Smallest = Smallest

-- the entries file says this: entries, or the number of a bad line
pub record HasEntries (contents : Parts) (path : List ℕ) (said : Result (List EntryPoint) ℕ) : Type 0 where
  pub bytes : List ℕ
  pub is_file : file_at contents path ≡ Some bytes
  pub says : entries_of bytes ≡ said

-- the entries file is there, and each folder
pub record HasNamed (contents : Parts) (link : Link) : Type 0 where
  pub file : IsTrue (is_some (file_at contents link.entries))
  pub folders : (path : List ℕ) → Contains link.folders path → IsTrue (is_some (folder_at contents path))

-- the folders hold what the words name; words that are no command name nothing
abbrev pub HoldWhatIsNamed : Parts → List (List ℕ) → Type 0
HoldWhatIsNamed contents words = (link : Link) → IsLinkCommand words link → HasNamed contents link

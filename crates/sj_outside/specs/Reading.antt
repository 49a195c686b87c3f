-- What is read of folders that may tell what they hold.
use Rattle.std.specs.Prelude.{◌≡◌, ℕ, Bool, false, not, List, Option, Some, None, option_map, is_some, take, ⊤}
use Rattle.sj_outside.specs.declared.answers.Entry.{Entry}
use Rattle.sj_outside.specs.Contents.{Parts, folder_at, file_at, entries_of}

-- these are the entries of the folder at the path
abbrev pub Lists : Option Parts → List ℕ → List Entry → Type 0
Lists None path entries = ⊤
Lists (Some contents) path entries = option_map entries_of (folder_at contents path) ≡ Some entries

-- these are the bytes of the file at the path, or the first `most` of them where it has more
abbrev pub Reads : Option Parts → List ℕ → ℕ → List ℕ → Type 0
Reads None path most bytes = ⊤
Reads (Some contents) path most bytes = option_map (take most) (file_at contents path) ≡ Some bytes

-- the object tells that it holds no folder at the path
abbrev pub lacks_folder : Option Parts → List ℕ → Bool
lacks_folder None path = false
lacks_folder (Some contents) path = not (is_some (folder_at contents path))

-- the object tells that it holds no file at the path
abbrev pub lacks_file : Option Parts → List ℕ → Bool
lacks_file None path = false
lacks_file (Some contents) path = not (is_some (file_at contents path))

-- What the walk over a folder gathers.
use Rattle.std.specs.Prelude.{◌≡◌, ℕ, zero, suc, List, [], ◌∷◌, ◌++◌, true, false, Some, codes, map, if◌then◌else◌}
use Rattle.std.specs.List.{All}
use Rattle.sj_names.specs.declared.folders.SourceFile.{SourceFile}
use Rattle.sj_outside.specs.Contents.{Parts, folder_at, file_at}
use Rattle.sj_outside.specs.declared.answers.Entry.{Entry}
use Rattle.folder_files.specs.Files.{AreFilesOf, files_below, is_class_file, path_of}

-- the path of what has this name in the folder
abbrev pub path_in : List ℕ → List ℕ → List ℕ
path_in folder name = folder ++ (codes "/" ++ name)

-- what the paths begin with in the folder of this name, where those beside it begin with the prefix
abbrev pub prefix_in : List ℕ → List ℕ → List ℕ
prefix_in prefix name = prefix ++ (name ++ codes "/")

abbrev pub prefixed : List ℕ → SourceFile → List ℕ
prefixed prefix file = prefix ++ file.path

-- the file's path leads to it from the folder
abbrev pub IsHeld : Parts → List ℕ → SourceFile → Type 0
IsHeld contents folder file = file_at contents (path_in folder file.path) ≡ Some file.bytes

-- the paths of the class files of the folder, in byte order, which lead to them
pub record ArePathsOf (contents : Parts) (folder : List ℕ) (paths : List (List ℕ)) : Type 0 where
  pub files : List SourceFile
  pub are_files : AreFilesOf contents folder files
  pub are_paths : map path_of files ≡ paths
  pub held : All (IsHeld contents folder) files

-- the paths of the class files of the folder, which lead to them, come to the old ones, each with the prefix
pub record Gathers (contents : Parts) (folder prefix : List ℕ) (left : ℕ) (old new : List (List ℕ)) : Type 0 where
  pub parts : Parts
  pub is_folder : folder_at contents folder ≡ Some parts
  pub gathered : new ≡ old ++ map (prefixed prefix) (files_below left parts)
  pub held : All (IsHeld contents folder) (files_below left parts)

-- those of the folder of this name in the folder come to the old ones, if one more folder may stand above a file's name
abbrev pub GathersFolder : Parts → List ℕ → List ℕ → ℕ → List ℕ → List (List ℕ) → List (List ℕ) → Type 0
GathersFolder contents folder prefix zero name old new = new ≡ old
GathersFolder contents folder prefix (suc left) name old new = Gathers contents (path_in folder name) (prefix_in prefix name) left old new

-- the path of the file of this name, if it is a class file
abbrev pub gathered_file : List ℕ → List ℕ → List (List ℕ)
gathered_file prefix name = if is_class_file name then (prefix ++ name) ∷ [] else []

-- those of an entry of the folder come to the old ones
pub data GathersEntry (contents : Parts) (folder prefix : List ℕ) (left : ℕ) (entry : Entry) (old new : List (List ℕ)) : Type 0 where
  of_folder : entry.is_folder ≡ true → GathersFolder contents folder prefix left entry.name old new → GathersEntry contents folder prefix left entry old new
  of_file : entry.is_folder ≡ false → new ≡ old ++ gathered_file prefix entry.name → GathersEntry contents folder prefix left entry old new

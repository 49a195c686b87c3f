-- The class files of a folder, and what is read of them.
use Rattle.std.specs.Prelude.{◌≡◌, ℕ, zero, suc, ◌+◌, Bool, List, [], ◌∷◌, ◌++◌, map, take, Some, codes, nat_eq, if◌then◌else◌}
use Rattle.std.specs.Cmp.Lexicographic.{slice_cmp}
use Rattle.std.specs.List.{ends_with}
use Rattle.std.specs.List.Sorted.{IsPermutation, IsSortedByKey}
use Rattle.std.specs.Ordering.{nat_cmp}
use Rattle.sj_names.specs.declared.folders.SourceFile.{SourceFile}
use Rattle.sj_outside.specs.Contents.{Parts, no_parts, file_part, folder_part, folder_at}
use Rattle.folder_sizes.specs.Sizes.{largest_file, IsTooLarge, IsFirstTooLarge}
use Rattle.folder_sizes.specs.Files.{sizes}

-- the most folders above a file's name
abbrev pub deepest : ℕ
deepest = 32

abbrev pub is_class_file : List ℕ → Bool
is_class_file name = ends_with nat_eq name (codes ".sjsir")

abbrev pub source_file : List ℕ → List ℕ → SourceFile
source_file path bytes = record { path = path; bytes = bytes }

-- a file in the folder of this name
abbrev pub inside : List ℕ → SourceFile → SourceFile
inside name file = source_file (name ++ (codes "/" ++ file.path)) file.bytes

-- the class files among these parts, with paths below them, where so many more folders may stand above a name
abbrev pub files_below : ℕ → Parts → List SourceFile
files_below left no_parts = []
files_below left (file_part name bytes others) = if is_class_file name then (source_file name bytes ∷ files_below left others) else files_below left others
files_below zero (folder_part name parts others) = files_below zero others
files_below (suc left) (folder_part name parts others) = map (inside name) (files_below left parts) ++ files_below (suc left) others

abbrev pub path_of : SourceFile → List ℕ
path_of file = file.path

-- these are the class files of the folder at the path, in byte order of their own paths
pub record AreFilesOf (contents : Parts) (path : List ℕ) (files : List SourceFile) : Type 0 where
  pub parts : Parts
  pub is_folder : folder_at contents path ≡ Some parts
  pub exact : IsPermutation (files_below deepest parts) files
  pub in_order : IsSortedByKey path_of (slice_cmp nat_cmp) files

-- what is read of a file: all, or one byte more than a file may have
abbrev pub front : SourceFile → SourceFile
front file = source_file file.path (take (largest_file + 1) file.bytes)

-- what is read of files in order: nothing behind the first at which they are too large
pub data IsReadOf (files : List SourceFile) : List SourceFile → Type 0 where
  all : ((place : ℕ) → IsTooLarge (sizes (map front files)) place → ⊥) → IsReadOf files (map front files)
  up_to : (place : ℕ) → IsFirstTooLarge (sizes (map front files)) place → IsReadOf files (take (place + 1) (map front files))

-- what is read of the class files of the folder at the path
pub record HasRead (contents : Parts) (path : List ℕ) (read : List SourceFile) : Type 0 where
  pub files : List SourceFile
  pub are_files : AreFilesOf contents path files
  pub is_read : IsReadOf files read

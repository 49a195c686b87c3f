-- The class files of some folders.
use Rattle.std.specs.Prelude.{◌≡◌, ℕ, zero, suc, [], ◌∷◌, codes, length}
use Rattle.sj_outside.specs.Contents.{Parts, no_parts, file_part, folder_part}
use Rattle.folder_files.specs.Files.{deepest, files_below, source_file}

-- a file below so many folders `d`
abbrev pub nested : ℕ → Parts
nested zero = file_part (codes "A.sjsir") (1 ∷ []) no_parts
nested (suc n) = folder_part (codes "d") (nested n) no_parts

-- a class file, another file, and a folder with a class file and one that isn't
abbrev pub mixed : Parts
mixed = file_part (codes "B.sjsir") (2 ∷ []) (file_part (codes "B.sjsi") [] (folder_part (codes "p.sjsir") (file_part (codes "C.sjsir") (3 ∷ []) (file_part (codes "sjsir") [] no_parts)) no_parts))

pub record RowsHold : Type 0 where
  pub none : files_below 0 no_parts ≡ []
  pub listed : files_below 1 mixed ≡ source_file (codes "B.sjsir") (2 ∷ []) ∷ source_file (codes "p.sjsir/C.sjsir") (3 ∷ []) ∷ []
  pub no_folder_left : files_below 0 mixed ≡ source_file (codes "B.sjsir") (2 ∷ []) ∷ []
  pub two_above : files_below 2 (nested 2) ≡ source_file (codes "d/d/A.sjsir") (1 ∷ []) ∷ []
  pub three_above : files_below 2 (nested 3) ≡ []
  pub bare_suffix : files_below 0 (file_part (codes ".sjsir") [] no_parts) ≡ source_file (codes ".sjsir") [] ∷ []
  pub deepest_of_all : length (files_below deepest (nested 32)) ≡ 1
  pub below_the_deepest : files_below deepest (nested 33) ≡ []

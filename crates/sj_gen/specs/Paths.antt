-- The paths of the generated folder.
use Rattle.std.specs.Prelude.{ℕ, ◌≤◌, ◌<◌, ◌+◌, ◌≡◌, Bool, List, length, nat_eq, slice_index_or}
use Rattle.std.specs.List.{IsDistinct, AllAdjacentBelow}
use Rattle.std.specs.Cmp.Lexicographic.{pointwise, slice_cmp}
use Rattle.std.specs.Ordering.{nat_cmp}
use Rattle.std.specs.declared.cmp.Ordering.{Ordering}
use Rattle.sj_names.specs.declared.folders.SourceFile.{SourceFile}
use Rattle.sj_gen.specs.Folder.{IsGenerated}

abbrev pub has_same_path : SourceFile → SourceFile → Bool
has_same_path f g = pointwise nat_eq f.path g.path

abbrev pub IsBelow : SourceFile → SourceFile → Type 0
IsBelow f g = slice_cmp nat_cmp f.path g.path ≡ Ordering.Less

-- no two files of a generated folder have the same path, and each path is below the next
pub record GeneratedPathsRise : Type 0 where
  pub distinct : (n : ℕ) (edited : Bool) (files : List SourceFile) → n ≤ 20000 → IsGenerated n edited files → IsDistinct has_same_path files
  pub rise : (n : ℕ) (edited : Bool) (files : List SourceFile) → n ≤ 20000 → IsGenerated n edited files → AllAdjacentBelow IsBelow files (length files)

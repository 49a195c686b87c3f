-- The generated folder.
use Rattle.std.specs.Prelude.{ℕ, zero, suc, Bool, List, [], ◌∷◌, ◌++◌, codes}
use Rattle.std.specs.List.Sorted.{IsPermutation, IsSortedByKey}
use Rattle.std.specs.Cmp.Lexicographic.{slice_cmp}
use Rattle.std.specs.Ordering.{nat_cmp}
use Rattle.sj_names.specs.declared.folders.SourceFile.{SourceFile}
use Rattle.sj_trees.specs.declared.classes.ClassDef.{ClassDef}
use Rattle.sj_write_spec.specs.Written.{written_class}
use Rattle.sj_gen.specs.Classes.{class_of, object_of}

-- the file of a class, whose path is the name of the class and `.sjsir`
abbrev pub path_of : List ℕ → List ℕ
path_of name = name ++ codes ".sjsir"

unfoldable pub file_of : ClassDef → SourceFile
file_of class = record { path = path_of class.name; bytes = written_class class }

-- the files of the first n classes, by number
abbrev pub class_files : Bool → ℕ → List SourceFile
class_files edited zero = []
class_files edited (suc n) = class_files edited n ++ file_of (class_of edited n) ∷ []

-- these files and that of `java.lang.Object`, each once and no other, in byte order of the paths
pub record IsGenerated (n : ℕ) (edited : Bool) (files : List SourceFile) : Type 0 where
  pub each_once : IsPermutation (class_files edited n ++ file_of (object_of n) ∷ []) files
  pub in_order : IsSortedByKey (λ (f : SourceFile). f.path) (slice_cmp nat_cmp) files

-- The sizes of the files of a folder.
use Rattle.std.specs.Prelude.{ℕ, List, length, map}
use Rattle.sj_names.specs.declared.folders.SourceFile.{SourceFile}

abbrev pub size_of : SourceFile → ℕ
size_of file = length file.bytes

abbrev pub sizes : List SourceFile → List ℕ
sizes = map size_of

-- What an entries file says are the entries of a link.
use Rattle.std.specs.Prelude.{◌≡◌, ℕ, List, Ok}
use Rattle.sj_names.specs.EntryPoints.{AreEntries}
use Rattle.sj_names.specs.declared.entry_points.EntryPoint.{EntryPoint}
use Rattle.entries_file.specs.EntriesFile.{entries_of}

abbrev pub EntriesAreValid : Type 0
EntriesAreValid = (bytes : List ℕ) (entries : List EntryPoint) → entries_of bytes ≡ Ok entries → AreEntries entries

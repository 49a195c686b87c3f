-- How a call refuses.
use Rattle.std.specs.Prelude.{◌≡◌, ◌⊎◌, ◌≤◌, ℕ, List, Result, Err, None, ⊤}
use Rattle.sj_names.specs.declared.entry_points.EntryPoint.{EntryPoint}
use Rattle.entries_file.specs.declared.errors.EntriesError.{EntriesError}
use Rattle.entries_file.specs.EntriesFile.{entry_of_line, most_entries}

-- where this is said, with the number of the bad line; want of memory is always free
abbrev pub IsRefused : Result (List EntryPoint) ℕ → EntriesError → Type 0
IsRefused says (EntriesError.BadLine number) = says ≡ Err number
IsRefused says EntriesError.NoMemory = ⊤

-- a line at this number is refused behind so many entries: there is room for no more, or it spells none
abbrev pub IsLineRefused : ℕ → ℕ → List ℕ → EntriesError → Type 0
IsLineRefused taken number line (EntriesError.BadLine bad) = (bad ≡ number) × ((most_entries ≤ taken) ⊎ (entry_of_line line ≡ None))
IsLineRefused taken number line EntriesError.NoMemory = ⊤

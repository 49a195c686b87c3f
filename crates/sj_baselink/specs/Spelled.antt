-- Entries with the spellings of their names.
use Rattle.std.specs.Prelude.{◌≡◌}
use Rattle.sj_names.specs.MethodNames.{spelled_method}
use Rattle.sj_world.specs.declared.linked.MethodEntry.{MethodEntry}
use Rattle.sj_baselink.specs.declared.ordered.SpelledEntry.{SpelledEntry}

abbrev pub entry_of : SpelledEntry → MethodEntry
entry_of spelled = spelled.entry

-- the spelling is that of the entry's name
abbrev pub IsSpelled : SpelledEntry → Type 0
IsSpelled spelled = spelled.spelling ≡ spelled_method spelled.entry.name

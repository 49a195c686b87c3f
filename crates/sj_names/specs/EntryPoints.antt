-- The entry points of a link.
use Rattle.std.specs.Prelude.{ℕ, Bool, List, codes, ◌==◌, ◌&&◌, ◌||◌, ◌≤◌, not, length, nat_le, nat_eq, IsTrue, slice_index}
use Rattle.std.specs.List.{list_all, starts_with}
use Rattle.std.specs.Cmp.Lexicographic.{pointwise}
use Rattle.sj_names.specs.Grammar.{is_digit}
use Rattle.sj_names.specs.declared.entry_points.EntryPoint.{EntryPoint}

-- `a` to `z`
abbrev pub is_letter : ℕ → Bool
is_letter byte = nat_le 97 byte && nat_le byte 122

-- a letter, a digit or `-`
abbrev pub is_id_byte : ℕ → Bool
is_id_byte byte = is_letter byte || is_digit byte || byte == 45

-- the id of a public module: 1 to 64 letters, digits and `-`, of which the first is a letter, and not `internal-` in front
abbrev pub is_public_id : List ℕ → Bool
is_public_id id = nat_le 1 (length id) && nat_le (length id) 64 && list_all is_id_byte id && is_letter (slice_index id 0) && not (starts_with nat_eq id (codes "internal-"))

-- an entry point in a public module, of a method that isn't a constructor
abbrev pub is_entry : EntryPoint → Bool
is_entry entry = is_public_id entry.module && not (pointwise nat_eq entry.method (codes "<init>"))

-- the entry points of a link: 1 to 1,000
pub record AreEntries (entries : List EntryPoint) : Type 0 where
  pub some : 1 ≤ length entries
  pub few : length entries ≤ 1000
  pub each : IsTrue (list_all is_entry entries)

-- What some entries files say.
use Rattle.std.specs.Prelude.{◌≡◌, ℕ, List, [], ◌∷◌, ◌++◌, ◌<◌, length, Ok, Err, codes}
use Rattle.sj_names.specs.declared.entry_points.EntryPoint.{EntryPoint}
use Rattle.entries_file.specs.EntriesFile.{said, most_bytes, entries_of}

abbrev line_feed : List ℕ
line_feed = 10 ∷ []

abbrev carriage_return : List ℕ
carriage_return = 13 ∷ []

abbrev main_in : List ℕ → EntryPoint
main_in class = record { «module» = codes "main"; class = class; method = codes "main" }

pub record RowsHold : Type 0 where
  pub empty_file : entries_of [] ≡ Err 0
  pub empty_lines : entries_of (line_feed ++ line_feed) ≡ Err 0
  pub one : entries_of (codes "main A main") ≡ Ok (main_in (codes "A") ∷ [])
  pub line_feed_at_the_end : entries_of (codes "main A main" ++ line_feed) ≡ Ok (main_in (codes "A") ∷ [])
  pub two : entries_of (codes "main A main" ++ line_feed ++ codes "main B main" ++ line_feed) ≡ Ok (main_in (codes "A") ∷ main_in (codes "B") ∷ [])
  pub empty_line_between : entries_of (codes "main A main" ++ line_feed ++ line_feed ++ codes "main B main") ≡ Ok (main_in (codes "A") ∷ main_in (codes "B") ∷ [])
  pub third_is_bad : entries_of (codes "main A main" ++ line_feed ++ codes "main B main" ++ line_feed ++ codes "main C" ++ line_feed) ≡ Err 3
  pub empty_line_counts : entries_of (codes "main A main" ++ line_feed ++ line_feed ++ codes "main C") ≡ Err 3
  pub first_bad_counts : entries_of (codes "main A" ++ line_feed ++ codes "main B") ≡ Err 1
  pub carriage_return_is_bad : entries_of (codes "main A main" ++ carriage_return ++ line_feed) ≡ Err 1
  pub two_spaces : entries_of (codes "main  A main") ≡ Err 1
  pub space_at_the_end : entries_of (codes "main A main ") ≡ Err 1
  pub constructor : entries_of (codes "main A <init>") ≡ Err 1
  pub internal : entries_of (codes "internal-a A main") ≡ Err 1
  pub no_text : entries_of (codes "main A m" ++ 255 ∷ []) ≡ Err 1
  pub no_room_left : (number byte : ℕ) (bytes : List ℕ) (rest : List (List ℕ)) → said number 0 ((byte ∷ bytes) ∷ rest) ≡ Err number
  pub too_long : (bytes : List ℕ) → most_bytes < length bytes → entries_of bytes ≡ Err 0

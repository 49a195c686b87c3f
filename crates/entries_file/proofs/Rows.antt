-- The rows are computed.
use Rattle.std.proofs.Common.{◌≡◌, ℕ, Bool, true, false, List, Result, Err, refl, arith, length, if◌then◌else◌}
use Rattle.std.specs.Prelude.{nat_lt}
use Rattle.std.proofs.lemmas.Bool.Decides.{nat_tests}
use Rattle.sj_names.specs.declared.entry_points.EntryPoint.{EntryPoint}
use Rattle.entries_file.specs.Lines.{lines}
use Rattle.entries_file.specs.EntriesFile.{said, most_bytes, most_entries, one_or_more}
use Rattle.std.specs.Str.{is_utf8, chars}
use Rattle.std.specs.Char.{encode_utf8}
use Rattle.entries_file.specs.Rows.{RowsHold}

chosen : (b : Bool) → b ≡ true → (x y : Result (List EntryPoint) ℕ) → (if b then x else y) ≡ x
chosen true e x y = refl
chosen false e x y = absurd cc

pub rows_hold : RowsHold
unfolding is_utf8 chars encode_utf8
rows_hold = record {
  empty_file = refl;
  empty_lines = refl;
  one = refl;
  line_feed_at_the_end = refl;
  two = refl;
  empty_line_between = refl;
  third_is_bad = refl;
  empty_line_counts = refl;
  first_bad_counts = refl;
  carriage_return_is_bad = refl;
  two_spaces = refl;
  space_at_the_end = refl;
  constructor = refl;
  internal = refl;
  no_text = refl;
  no_room_left = λ number byte bytes rest. refl;
  too_long = λ bytes l. chosen (nat_lt most_bytes (length bytes)) (grind (arith, nat_tests)) (Err 0) (one_or_more (said 1 most_entries (lines bytes)));
}

-- The recorded classes, by computing.
use Rattle.std.proofs.Common.{refl}
use Rattle.agree_recorded.proofs.Premises.{Recorded}
use Rattle.agree_recorded_longs.specs.Recorded as recorded

pub least_int_divided : Recorded recorded.least_int_divided_class
least_int_divided = record { found = refl; findings = refl; tested = refl }

pub least_long : Recorded recorded.least_long_class
least_long = record { found = refl; findings = refl; tested = refl }

pub three_counted : Recorded recorded.three_counted_class
three_counted = record { found = refl; findings = refl; tested = refl }

pub char_argument : Recorded recorded.char_argument_class
char_argument = record { found = refl; findings = refl; tested = refl }

pub compared_longs : Recorded recorded.compared_longs_class
compared_longs = record { found = refl; findings = refl; tested = refl }

pub turns_in_a_choice : Recorded recorded.turns_in_a_choice_class
turns_in_a_choice = record { found = refl; findings = refl; tested = refl }

pub int_as_long : Recorded recorded.int_as_long_class
int_as_long = record { found = refl; findings = refl; tested = refl }

pub long_as_byte : Recorded recorded.long_as_byte_class
long_as_byte = record { found = refl; findings = refl; tested = refl }

pub match_in_a_condition : Recorded recorded.match_in_a_condition_class
match_in_a_condition = record { found = refl; findings = refl; tested = refl }

pub greater_long : Recorded recorded.greater_long_class
greater_long = record { found = refl; findings = refl; tested = refl }

pub longs_unread : Recorded recorded.longs_unread_class
longs_unread = record { found = refl; findings = refl; tested = refl }

pub long_moved_left : Recorded recorded.long_moved_left_class
long_moved_left = record { found = refl; findings = refl; tested = refl }

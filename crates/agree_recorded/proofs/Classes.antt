-- The recorded classes, by computing.
use Rattle.std.proofs.Common.{refl}
use Rattle.agree_recorded.proofs.Premises.{Recorded}
use Rattle.agree_recorded.specs.Whole as whole

pub logs_hi : Recorded whole.logs_hi_class
logs_hi = record { found = refl; findings = refl; tested = refl }

pub calls_itself : Recorded whole.calls_itself_class
calls_itself = record { found = refl; findings = refl; tested = refl }

pub odd_units : Recorded whole.odd_units_class
odd_units = record { found = refl; findings = refl; tested = refl }

pub one_turn : Recorded whole.one_turn_class
one_turn = record { found = refl; findings = refl; tested = refl }

pub three_loops : Recorded whole.three_loops_class
three_loops = record { found = refl; findings = refl; tested = refl }

pub block_value : Recorded whole.block_value_class
block_value = record { found = refl; findings = refl; tested = refl }

pub spilled_matches : Recorded whole.spilled_matches_class
spilled_matches = record { found = refl; findings = refl; tested = refl }

pub choices : Recorded whole.choices_class
choices = record { found = refl; findings = refl; tested = refl }

pub no_such_key : Recorded whole.no_such_key_class
no_such_key = record { found = refl; findings = refl; tested = refl }

pub no_lines : Recorded whole.no_lines_class
no_lines = record { found = refl; findings = refl; tested = refl }

pub four_turns : Recorded whole.four_turns_class
four_turns = record { found = refl; findings = refl; tested = refl }

pub choice_with_lines : Recorded whole.choice_with_lines_class
choice_with_lines = record { found = refl; findings = refl; tested = refl }

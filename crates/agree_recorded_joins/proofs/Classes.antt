-- The recorded classes, by computing.
use Rattle.std.proofs.Common.{refl}
use Rattle.agree_recorded.proofs.Premises.{Recorded}
use Rattle.agree_recorded_joins.specs.Recorded as recorded

pub tripled : Recorded recorded.tripled_class
tripled = record { found = refl; findings = refl; tested = refl }

pub spilled_call : Recorded recorded.spilled_call_class
spilled_call = record { found = refl; findings = refl; tested = refl }

pub call_in_a_call : Recorded recorded.call_in_a_call_class
call_in_a_call = record { found = refl; findings = refl; tested = refl }

pub left_with_a_value : Recorded recorded.left_with_a_value_class
left_with_a_value = record { found = refl; findings = refl; tested = refl }

pub matches_by_key : Recorded recorded.matches_by_key_class
matches_by_key = record { found = refl; findings = refl; tested = refl }

pub joined_values : Recorded recorded.joined_values_class
joined_values = record { found = refl; findings = refl; tested = refl }

pub joined_behind_a_line : Recorded recorded.joined_behind_a_line_class
joined_behind_a_line = record { found = refl; findings = refl; tested = refl }

pub joined_nulls : Recorded recorded.joined_nulls_class
joined_nulls = record { found = refl; findings = refl; tested = refl }

pub joined_letters : Recorded recorded.joined_letters_class
joined_letters = record { found = refl; findings = refl; tested = refl }

pub char_of_an_int : Recorded recorded.char_of_an_int_class
char_of_an_int = record { found = refl; findings = refl; tested = refl }

pub left_behind_a_line : Recorded recorded.left_behind_a_line_class
left_behind_a_line = record { found = refl; findings = refl; tested = refl }

pub calls_behind_calls : Recorded recorded.calls_behind_calls_class
calls_behind_calls = record { found = refl; findings = refl; tested = refl }

pub kept_text : Recorded recorded.kept_text_class
kept_text = record { found = refl; findings = refl; tested = refl }

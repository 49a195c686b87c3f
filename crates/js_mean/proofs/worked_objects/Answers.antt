use Rattle.std.proofs.Common.{refl}
use Rattle.std.specs.Char.{encode_utf8}
use Rattle.std.specs.Str.{is_utf8, chars}
use Rattle.js_mean.proofs.worked_objects.Goals as goal

pub returns-clause-thrown_object : goal.returns-clause-thrown_object
unfolding is_utf8 chars encode_utf8
returns-clause-thrown_object c = refl

pub returns-clause-thrown_char : goal.returns-clause-thrown_char
unfolding is_utf8 chars encode_utf8
returns-clause-thrown_char c = refl

pub returns-clause-thrown_no_char : goal.returns-clause-thrown_no_char
unfolding is_utf8 chars encode_utf8
returns-clause-thrown_no_char c = refl

pub returns-clause-no_marker : goal.returns-clause-no_marker
unfolding is_utf8 chars encode_utf8
returns-clause-no_marker c = refl

pub returns-clause-no_text : goal.returns-clause-no_text
unfolding is_utf8 chars encode_utf8
returns-clause-no_text c = refl

pub returns-clause-no_byte : goal.returns-clause-no_byte
unfolding is_utf8 chars encode_utf8
returns-clause-no_byte c = refl

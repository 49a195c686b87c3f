use Rattle.std.proofs.Common.{refl}
use Rattle.std.specs.Char.{encode_utf8}
use Rattle.std.specs.Str.{is_utf8, chars}
use Rattle.class_casts.proofs.worked_casts.Goals as goal

pub returns-clause-within_3 : goal.returns-clause-within_3
returns-clause-within_3 c = refl

pub returns-clause-kind_within_4 : goal.returns-clause-kind_within_4
unfolding is_utf8 chars encode_utf8
returns-clause-kind_within_4 c = refl

pub returns-clause-class_within_4 : goal.returns-clause-class_within_4
unfolding is_utf8 chars encode_utf8
returns-clause-class_within_4 c = refl

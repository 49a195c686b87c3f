use Rattle.std.proofs.Common.{refl}
use Rattle.std.specs.Char.{encode_utf8}
use Rattle.std.specs.Fmt.{digits}
use Rattle.std.specs.Str.{is_utf8, chars}
use Rattle.array_code.proofs.worked_arrays.Goals as goal

pub returns-clause-within_3 : goal.returns-clause-within_3
returns-clause-within_3 c = refl

pub returns-clause-index : goal.returns-clause-index
unfolding digits is_utf8 chars encode_utf8
returns-clause-index c = refl

pub returns-clause-element : goal.returns-clause-element
unfolding is_utf8 chars encode_utf8
returns-clause-element c = refl

pub returns-clause-index_first : goal.returns-clause-index_first
unfolding digits is_utf8 chars encode_utf8
returns-clause-index_first c = refl

pub returns-clause-size : goal.returns-clause-size
unfolding digits is_utf8 chars encode_utf8
returns-clause-size c = refl

pub returns-clause-depth : goal.returns-clause-depth
unfolding is_utf8 chars encode_utf8
returns-clause-depth c = refl

pub returns-clause-cast : goal.returns-clause-cast
unfolding is_utf8 chars encode_utf8
returns-clause-cast c = refl

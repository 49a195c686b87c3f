use Rattle.std.proofs.Common.{refl}
use Rattle.std.specs.Char.{encode_utf8}
use Rattle.std.specs.Fmt.{digits}
use Rattle.std.specs.Str.{is_utf8, chars}
use Rattle.agree_recorded_folders.proofs.objects_null_receivers.Goals as goal

pub returns-clause-main_within_0 : goal.returns-clause-main_within_0
unfolding digits
returns-clause-main_within_0 c = refl

pub returns-clause-main_within_1 : goal.returns-clause-main_within_1
unfolding digits
returns-clause-main_within_1 c = refl

pub returns-clause-main_within_2 : goal.returns-clause-main_within_2
unfolding digits
returns-clause-main_within_2 c = refl

pub returns-clause-main_within_3 : goal.returns-clause-main_within_3
unfolding digits
returns-clause-main_within_3 c = refl

pub returns-clause-main_within_5 : goal.returns-clause-main_within_5
unfolding digits
returns-clause-main_within_5 c = refl

pub returns-clause-main_within_10 : goal.returns-clause-main_within_10
unfolding digits
returns-clause-main_within_10 c = refl

pub returns-clause-main_within_50 : goal.returns-clause-main_within_50
unfolding digits
returns-clause-main_within_50 c = refl

pub returns-clause-main_within_300 : goal.returns-clause-main_within_300
unfolding digits
returns-clause-main_within_300 c = refl

pub returns-clause-main_files : goal.returns-clause-main_files
unfolding digits is_utf8 chars encode_utf8
returns-clause-main_files c = refl

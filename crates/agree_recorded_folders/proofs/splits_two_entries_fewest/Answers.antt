use Rattle.std.proofs.Common.{refl}
use Rattle.std.specs.Fmt.{digits}
use Rattle.agree_recorded_folders.proofs.splits_two_entries_fewest.Goals as goal

pub returns-clause-hello_within_0 : goal.returns-clause-hello_within_0
unfolding digits
returns-clause-hello_within_0 c = refl

pub returns-clause-hello_within_1 : goal.returns-clause-hello_within_1
unfolding digits
returns-clause-hello_within_1 c = refl

pub returns-clause-hello_within_2 : goal.returns-clause-hello_within_2
unfolding digits
returns-clause-hello_within_2 c = refl

pub returns-clause-hello_within_3 : goal.returns-clause-hello_within_3
unfolding digits
returns-clause-hello_within_3 c = refl

pub returns-clause-hello_within_5 : goal.returns-clause-hello_within_5
unfolding digits
returns-clause-hello_within_5 c = refl

pub returns-clause-hello_within_10 : goal.returns-clause-hello_within_10
unfolding digits
returns-clause-hello_within_10 c = refl

pub returns-clause-hello_within_50 : goal.returns-clause-hello_within_50
unfolding digits
returns-clause-hello_within_50 c = refl

pub returns-clause-hello_within_300 : goal.returns-clause-hello_within_300
unfolding digits
returns-clause-hello_within_300 c = refl

pub returns-clause-hello_files : goal.returns-clause-hello_files
unfolding digits
returns-clause-hello_files c = refl

pub returns-clause-world_within_0 : goal.returns-clause-world_within_0
unfolding digits
returns-clause-world_within_0 c = refl

pub returns-clause-world_within_1 : goal.returns-clause-world_within_1
unfolding digits
returns-clause-world_within_1 c = refl

pub returns-clause-world_within_2 : goal.returns-clause-world_within_2
unfolding digits
returns-clause-world_within_2 c = refl

pub returns-clause-world_within_3 : goal.returns-clause-world_within_3
unfolding digits
returns-clause-world_within_3 c = refl

pub returns-clause-world_within_5 : goal.returns-clause-world_within_5
unfolding digits
returns-clause-world_within_5 c = refl

pub returns-clause-world_within_10 : goal.returns-clause-world_within_10
unfolding digits
returns-clause-world_within_10 c = refl

pub returns-clause-world_within_50 : goal.returns-clause-world_within_50
unfolding digits
returns-clause-world_within_50 c = refl

pub returns-clause-world_within_300 : goal.returns-clause-world_within_300
unfolding digits
returns-clause-world_within_300 c = refl

pub returns-clause-world_files : goal.returns-clause-world_files
unfolding digits
returns-clause-world_files c = refl

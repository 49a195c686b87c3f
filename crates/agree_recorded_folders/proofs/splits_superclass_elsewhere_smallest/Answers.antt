use Rattle.std.proofs.Common.{refl}
use Rattle.std.specs.Fmt.{digits}
use Rattle.agree_recorded_folders.proofs.splits_superclass_elsewhere_smallest.Goals as goal

pub returns-clause-a_within_0 : goal.returns-clause-a_within_0
unfolding digits
returns-clause-a_within_0 c = refl

pub returns-clause-a_within_1 : goal.returns-clause-a_within_1
unfolding digits
returns-clause-a_within_1 c = refl

pub returns-clause-a_within_2 : goal.returns-clause-a_within_2
unfolding digits
returns-clause-a_within_2 c = refl

pub returns-clause-a_within_3 : goal.returns-clause-a_within_3
unfolding digits
returns-clause-a_within_3 c = refl

pub returns-clause-a_within_5 : goal.returns-clause-a_within_5
unfolding digits
returns-clause-a_within_5 c = refl

pub returns-clause-a_within_10 : goal.returns-clause-a_within_10
unfolding digits
returns-clause-a_within_10 c = refl

pub returns-clause-a_within_50 : goal.returns-clause-a_within_50
unfolding digits
returns-clause-a_within_50 c = refl

pub returns-clause-a_within_300 : goal.returns-clause-a_within_300
unfolding digits
returns-clause-a_within_300 c = refl

pub returns-clause-a_files : goal.returns-clause-a_files
unfolding digits
returns-clause-a_files c = refl

pub returns-clause-a_b_within_0 : goal.returns-clause-a_b_within_0
unfolding digits
returns-clause-a_b_within_0 c = refl

pub returns-clause-a_b_within_1 : goal.returns-clause-a_b_within_1
unfolding digits
returns-clause-a_b_within_1 c = refl

pub returns-clause-a_b_within_2 : goal.returns-clause-a_b_within_2
unfolding digits
returns-clause-a_b_within_2 c = refl

pub returns-clause-a_b_within_3 : goal.returns-clause-a_b_within_3
unfolding digits
returns-clause-a_b_within_3 c = refl

pub returns-clause-a_b_within_5 : goal.returns-clause-a_b_within_5
unfolding digits
returns-clause-a_b_within_5 c = refl

pub returns-clause-a_b_within_10 : goal.returns-clause-a_b_within_10
unfolding digits
returns-clause-a_b_within_10 c = refl

pub returns-clause-a_b_within_50 : goal.returns-clause-a_b_within_50
unfolding digits
returns-clause-a_b_within_50 c = refl

pub returns-clause-a_b_within_300 : goal.returns-clause-a_b_within_300
unfolding digits
returns-clause-a_b_within_300 c = refl

pub returns-clause-a_b_files : goal.returns-clause-a_b_files
unfolding digits
returns-clause-a_b_files c = refl

pub returns-clause-a0_within_0 : goal.returns-clause-a0_within_0
unfolding digits
returns-clause-a0_within_0 c = refl

pub returns-clause-a0_within_1 : goal.returns-clause-a0_within_1
unfolding digits
returns-clause-a0_within_1 c = refl

pub returns-clause-a0_within_2 : goal.returns-clause-a0_within_2
unfolding digits
returns-clause-a0_within_2 c = refl

pub returns-clause-a0_within_3 : goal.returns-clause-a0_within_3
unfolding digits
returns-clause-a0_within_3 c = refl

pub returns-clause-a0_within_5 : goal.returns-clause-a0_within_5
unfolding digits
returns-clause-a0_within_5 c = refl

pub returns-clause-a0_within_10 : goal.returns-clause-a0_within_10
unfolding digits
returns-clause-a0_within_10 c = refl

pub returns-clause-a0_within_50 : goal.returns-clause-a0_within_50
unfolding digits
returns-clause-a0_within_50 c = refl

pub returns-clause-a0_within_300 : goal.returns-clause-a0_within_300
unfolding digits
returns-clause-a0_within_300 c = refl

pub returns-clause-a0_files : goal.returns-clause-a0_files
unfolding digits
returns-clause-a0_files c = refl

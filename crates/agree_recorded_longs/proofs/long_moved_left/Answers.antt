use Rattle.std.proofs.Common.{refl}
use Rattle.std.specs.Fmt.{digits}
use Rattle.agree_recorded_longs.proofs.Classes as classes
use Rattle.agree_recorded.proofs.Computing.{reading, printing}
use Rattle.agree_recorded.proofs.Premises.{recorded_agrees}
use Rattle.agree_recorded_longs.specs.Recorded as recorded
use Rattle.agree_recorded_longs.proofs.long_moved_left.Goals as goal

pub returns-clause-read : goal.returns-clause-read
unfolding reading
returns-clause-read c = refl

pub returns-clause-by_the_class : goal.returns-clause-by_the_class
unfolding digits
returns-clause-by_the_class c = refl

pub returns-clause-by_the_file : goal.returns-clause-by_the_file
unfolding digits
returns-clause-by_the_file c = refl

pub returns-clause-printed : goal.returns-clause-printed
unfolding printing
returns-clause-printed c = refl

pub returns-clause-agree : goal.returns-clause-agree
returns-clause-agree c = recorded_agrees recorded.long_moved_left_class classes.long_moved_left

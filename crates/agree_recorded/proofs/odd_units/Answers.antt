use Rattle.std.proofs.Common.{refl}
use Rattle.agree_recorded.proofs.Classes as classes
use Rattle.agree_recorded.proofs.Computing.{reading, printing}
use Rattle.agree_recorded.proofs.Premises.{recorded_agrees}
use Rattle.agree_recorded.specs.Whole as whole
use Rattle.agree_recorded.proofs.odd_units.Goals as goal

pub returns-clause-read : goal.returns-clause-read
unfolding reading
returns-clause-read c = refl

pub returns-clause-printed : goal.returns-clause-printed
unfolding printing
returns-clause-printed c = refl

pub returns-clause-agree : goal.returns-clause-agree
returns-clause-agree c = recorded_agrees whole.odd_units_class classes.odd_units

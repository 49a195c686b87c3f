use Rattle.sj_baselink_spec.proofs.Worked.{called_is_there, uncalled_is_not, superclass_has_it, inherited_is_not, overriding_is_there, default_is_there, reflective_is_there}
use Rattle.sj_baselink_spec.proofs.laws.worked_entries.Goals as goal

pub returns-clause-called : goal.returns-clause-called
returns-clause-called c = called_is_there

pub returns-clause-uncalled : goal.returns-clause-uncalled
returns-clause-uncalled c = uncalled_is_not

pub returns-clause-superclass : goal.returns-clause-superclass
returns-clause-superclass c = superclass_has_it

pub returns-clause-inherited : goal.returns-clause-inherited
returns-clause-inherited c = inherited_is_not

pub returns-clause-overriding : goal.returns-clause-overriding
returns-clause-overriding c = overriding_is_there

pub returns-clause-default : goal.returns-clause-default
returns-clause-default c = default_is_there

pub returns-clause-reflective : goal.returns-clause-reflective
returns-clause-reflective c = reflective_is_there

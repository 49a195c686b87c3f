use Rattle.agree_recorded.proofs.Accepted as accepted
use Rattle.agree_recorded.proofs.worked_classes_agree.Goals as goal

pub returns-clause-accepted : goal.returns-clause-accepted
returns-clause-accepted c = accepted.each_accepted

pub returns-clause-own_members : goal.returns-clause-own_members
returns-clause-own_members c = accepted.own_members

pub returns-clause-agree : goal.returns-clause-agree
returns-clause-agree c = accepted.worked_agrees

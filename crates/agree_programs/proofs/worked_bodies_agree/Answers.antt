use Rattle.agree_programs.proofs.WorkedWhole as worked
use Rattle.agree_programs.proofs.worked_bodies_agree.Goals as goal

pub returns : goal.returns
returns c = worked.worked_agrees

use Rattle.agree_programs.proofs.Worked as worked
use Rattle.agree_programs.proofs.worked_program_agrees.Goals as goal

pub returns-clause-agrees : goal.returns-clause-agrees
returns-clause-agrees c = worked.worked_agrees

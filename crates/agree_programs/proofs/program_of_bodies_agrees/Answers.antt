use Rattle.agree_programs.proofs.Whole as whole
use Rattle.agree_programs.proofs.program_of_bodies_agrees.Goals as goal

pub returns : goal.returns
returns c = whole.program_agrees

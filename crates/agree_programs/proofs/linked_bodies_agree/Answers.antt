use Rattle.agree_programs.proofs.Whole as whole
use Rattle.agree_programs.proofs.linked_bodies_agree.Goals as goal

pub returns : goal.returns
returns c = whole.linked_agrees

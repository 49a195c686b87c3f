use Rattle.agree_programs.proofs.Whole as whole
use Rattle.agree_programs.proofs.bodies_without_classes_agree.Goals as goal

pub returns : goal.returns
returns c = whole.alone_agree

use Rattle.agree_classes.proofs.Judged.{judged_agree}
use Rattle.agree_classes.proofs.judged_classes_agree.Goals as goal

pub returns : goal.returns
returns c = judged_agree

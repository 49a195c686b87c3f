use Rattle.agree_classes.proofs.Programs as programs
use Rattle.agree_classes.proofs.typed_classes_agree.Goals as goal

pub returns : goal.returns
returns c = programs.classes_agree

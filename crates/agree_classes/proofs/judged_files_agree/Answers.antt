use Rattle.agree_classes.proofs.Written as written
use Rattle.agree_classes.proofs.judged_files_agree.Goals as goal

pub returns : goal.returns
returns c = written.files_agree

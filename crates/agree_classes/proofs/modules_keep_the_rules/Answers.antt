use Rattle.agree_classes.proofs.Written as written
use Rattle.agree_classes.proofs.modules_keep_the_rules.Goals as goal

pub returns : goal.returns
returns c = written.modules_keep

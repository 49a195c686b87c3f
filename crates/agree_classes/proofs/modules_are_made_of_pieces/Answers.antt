use Rattle.agree_classes.proofs.Written as written
use Rattle.agree_classes.proofs.modules_are_made_of_pieces.Goals as goal

pub returns : goal.returns
returns c = written.modules_are

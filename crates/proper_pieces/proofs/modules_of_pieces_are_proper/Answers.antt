use Rattle.proper_pieces.proofs.Modules as modules
use Rattle.proper_pieces.proofs.modules_of_pieces_are_proper.Goals as goal

pub returns : goal.returns
returns c = modules.modules_of_pieces_are_proper

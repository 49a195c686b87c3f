use Rattle.linked_folders.proofs.Links.{runs}
use Rattle.linked_folders.proofs.written_pieces_run.Goals as goal

pub returns : goal.returns
returns c = runs

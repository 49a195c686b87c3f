use Rattle.module_files.proofs.FromLinked.{linked_pieces_are_proper}
use Rattle.module_files.proofs.linked_pieces_are_proper.Goals as goal

pub returns : goal.returns
returns c = linked_pieces_are_proper

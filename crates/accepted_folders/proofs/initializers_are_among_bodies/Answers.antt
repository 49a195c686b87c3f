use Rattle.accepted_folders.proofs.Calls.{initializers_among}
use Rattle.accepted_folders.proofs.initializers_are_among_bodies.Goals as goal

pub returns : goal.returns
returns c = initializers_among

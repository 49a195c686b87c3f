use Rattle.accepted_folders.proofs.Listed.{have_bodies}
use Rattle.accepted_folders.proofs.accepted_folders_have_bodies.Goals as goal

pub returns : goal.returns
returns c = have_bodies

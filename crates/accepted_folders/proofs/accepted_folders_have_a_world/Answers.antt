use Rattle.accepted_folders.proofs.Worlds.{have_worlds}
use Rattle.accepted_folders.proofs.accepted_folders_have_a_world.Goals as goal

pub returns : goal.returns
returns c = have_worlds

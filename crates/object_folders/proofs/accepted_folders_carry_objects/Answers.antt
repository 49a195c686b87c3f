use Rattle.object_folders.proofs.Worlds.{carry, link_right}
use Rattle.object_folders.proofs.accepted_folders_carry_objects.Goals as goal

pub returns-clause-worlds : goal.returns-clause-worlds
returns-clause-worlds c = carry

pub returns-clause-members : goal.returns-clause-members
returns-clause-members c = link_right

use Rattle.object_helpers.proofs.Bodies.{used}
use Rattle.object_helpers.proofs.bodies_use_object_helpers.Goals as goal

pub returns : goal.returns
returns c = used

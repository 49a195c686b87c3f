use Rattle.folder_judging_spec.proofs.Defined.{needed_bodies}
use Rattle.folder_judging_spec.proofs.laws.needed_bodies_are_there.Goals as goal

pub returns : goal.returns
returns c = needed_bodies

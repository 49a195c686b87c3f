use Rattle.body_uses.proofs.Given.{given}
use Rattle.body_uses.proofs.bodies_use_what_is_given.Goals as goal

pub returns : goal.returns
returns c = given

use Rattle.body_uses.proofs.Forms.{accepted_bodies}
use Rattle.body_uses.proofs.accepted_bodies_use_what_is_written.Goals as goal

pub returns : goal.returns
returns c = accepted_bodies

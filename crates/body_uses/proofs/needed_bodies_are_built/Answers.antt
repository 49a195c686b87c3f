use Rattle.body_uses.proofs.Forms.{body_is_built}
use Rattle.body_uses.proofs.needed_bodies_are_built.Goals as goal

pub returns : goal.returns
returns c = λ entries files w all a bodies e i. body_is_built entries files w a all bodies e i

use Rattle.module_uses.proofs.Bodies.{no_more}
use Rattle.module_uses.proofs.bodies_use_no_more.Goals as goal

pub returns : goal.returns
returns c = no_more

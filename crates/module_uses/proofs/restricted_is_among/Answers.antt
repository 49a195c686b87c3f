use Rattle.module_uses.proofs.Among.{among_all}
use Rattle.module_uses.proofs.restricted_is_among.Goals as goal

pub returns : goal.returns
returns c = among_all

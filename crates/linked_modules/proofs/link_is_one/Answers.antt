use Rattle.linked_modules.proofs.One.{link_is_one}
use Rattle.linked_modules.proofs.link_is_one.Goals as goal

pub returns : goal.returns
returns c = link_is_one

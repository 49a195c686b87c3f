use Rattle.agree_soundness.proofs.Modules.{nothing_asked}
use Rattle.agree_soundness.proofs.members_alone_ask_nothing.Goals as goal

pub returns : goal.returns
returns c = nothing_asked

use Rattle.agree_soundness.proofs.Modules.{never_wrong}
use Rattle.agree_soundness.proofs.modules_are_never_wrong.Goals as goal

pub returns : goal.returns
returns c = never_wrong

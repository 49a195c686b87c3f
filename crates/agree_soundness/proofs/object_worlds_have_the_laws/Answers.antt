use Rattle.agree_soundness.proofs.Assembled.{laws_of}
use Rattle.agree_soundness.proofs.object_worlds_have_the_laws.Goals as goal

pub returns : goal.returns
returns c = laws_of

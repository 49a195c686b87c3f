use Rattle.agree_bodies.proofs.InWorld.{in_world}
use Rattle.agree_calls.proofs.ObjectLevels as levels
use Rattle.agree_calls.proofs.calls_with_objects_agree.Goals as goal

pub returns : goal.returns
returns c p plain typed = levels.calls_agree p plain (in_world p.typing typed)

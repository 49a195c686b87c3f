use Rattle.agree_bodies.proofs.InWorld.{in_world}
use Rattle.agree_calls.proofs.Levels as levels
use Rattle.agree_calls.proofs.calls_agree.Goals as goal

pub returns : goal.returns
returns c p plain = levels.calls_agree p (in_world p.typing plain)

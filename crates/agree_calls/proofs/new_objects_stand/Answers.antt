use Rattle.agree_calls.proofs.Shapes.{stands_there}
use Rattle.agree_calls.proofs.new_objects_stand.Goals as goal

pub returns : goal.returns
returns c = stands_there

use Rattle.accepted_folders.proofs.Calls.{calls_among}
use Rattle.accepted_folders.proofs.calls_are_among_bodies.Goals as goal

pub returns : goal.returns
returns c = calls_among

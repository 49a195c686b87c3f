use Rattle.agree_body_rules.proofs.InWorld.{in_world}
use Rattle.agree_body_rules.proofs.subtypes_of_worlds_are_ordered.Goals as goal

pub returns : goal.returns
returns c = in_world

use Rattle.sj_world.proofs.LawsHold.{subtypes_reflexive, subtypes_transitive}
use Rattle.sj_world.proofs.laws.subtypes_are_ordered.Goals as goal

pub returns : goal.returns
returns c = record { reflexive = subtypes_reflexive; transitive = subtypes_transitive }

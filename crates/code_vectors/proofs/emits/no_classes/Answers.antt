use Rattle.code_vectors.proofs.Untargeted.{no-classes}
use Rattle.code_vectors.proofs.emits.no_classes.Goals as goal

pub returns-in-Ok : goal.returns-in-Ok
returns-in-Ok c = no-classes c.new.result.items _ c.new.ensures.items c.in-Ok.ensures.world.sorted.same

use Rattle.class_casts.proofs.Classed as laws
use Rattle.class_casts.proofs.class_casts_tell.Goals as goal

pub returns : goal.returns
returns c = laws.class_casts_tell

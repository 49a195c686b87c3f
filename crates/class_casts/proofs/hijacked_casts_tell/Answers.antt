use Rattle.class_casts.proofs.Classed as laws
use Rattle.class_casts.proofs.hijacked_casts_tell.Goals as goal

pub returns : goal.returns
returns c = laws.hijacked_casts_tell

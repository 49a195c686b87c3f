use Rattle.class_casts.proofs.Kinded as laws
use Rattle.class_casts.proofs.casts_tell.Goals as goal

pub returns : goal.returns
returns c = laws.casts_tell

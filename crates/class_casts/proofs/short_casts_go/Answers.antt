use Rattle.class_casts.proofs.Shortly as laws
use Rattle.class_casts.proofs.short_casts_go.Goals as goal

pub returns : goal.returns
returns c = laws.short_casts_go

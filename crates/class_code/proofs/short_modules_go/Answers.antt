use Rattle.class_code.proofs.Loading as laws
use Rattle.class_code.proofs.short_modules_go.Goals as goal

pub returns : goal.returns
returns c = laws.short_modules_go

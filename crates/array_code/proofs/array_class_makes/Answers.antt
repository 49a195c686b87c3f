use Rattle.array_code.proofs.Arraying as laws
use Rattle.array_code.proofs.array_class_makes.Goals as goal

pub returns : goal.returns
returns c = laws.array_class_makes

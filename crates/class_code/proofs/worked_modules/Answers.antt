use Rattle.std.proofs.Common.{refl}
use Rattle.class_code.proofs.worked_modules.Goals as goal

pub returns-clause-within_3 : goal.returns-clause-within_3
returns-clause-within_3 c = refl

pub returns-clause-stored : goal.returns-clause-stored
returns-clause-stored c = refl

pub returns-clause-again : goal.returns-clause-again
returns-clause-again c = refl

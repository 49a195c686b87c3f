use Rattle.array_code.proofs.Covered as laws
use Rattle.array_code.proofs.covers_tells.Goals as goal

pub returns-clause-tells : goal.returns-clause-tells
returns-clause-tells c = laws.covers_tells

pub returns-clause-cases : goal.returns-clause-cases
returns-clause-cases c = laws.cover_cases

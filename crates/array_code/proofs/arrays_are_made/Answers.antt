use Rattle.array_code.proofs.Arraying as laws
use Rattle.array_code.proofs.arrays_are_made.Goals as goal

pub returns-clause-helper : goal.returns-clause-helper
returns-clause-helper c = laws.making_tells

pub returns-clause-whole : goal.returns-clause-whole
returns-clause-whole c = laws.arrays_are_made

pub returns-clause-objects : goal.returns-clause-objects
returns-clause-objects c = laws.made_are_arrays

use Rattle.agree_calls.proofs.Making as making
use Rattle.agree_calls.proofs.constructors_make_one_object.Goals as goal

pub returns-clause-enough : goal.returns-clause-enough
returns-clause-enough c = making.chains_make

pub returns-clause-short : goal.returns-clause-short
returns-clause-short c = making.short_bounds_go

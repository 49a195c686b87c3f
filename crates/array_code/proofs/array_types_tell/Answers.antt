use Rattle.array_code.proofs.Tested as laws
use Rattle.array_code.proofs.array_types_tell.Goals as goal

pub returns-clause-tests : goal.returns-clause-tests
returns-clause-tests c = laws.array_tests_tell

pub returns-clause-casts : goal.returns-clause-casts
returns-clause-casts c = laws.array_casts_tell

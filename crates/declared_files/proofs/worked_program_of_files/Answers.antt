use Rattle.declared_files.proofs.Worked as worked
use Rattle.declared_files.proofs.worked_program_of_files.Goals as goal

pub returns-clause-declared : goal.returns-clause-declared
returns-clause-declared c = worked.all_declared

pub returns-clause-public : goal.returns-clause-public
returns-clause-public c = worked.is_public

pub returns-clause-lawful : goal.returns-clause-lawful
returns-clause-lawful c = worked.lawful

pub returns-clause-agrees : goal.returns-clause-agrees
returns-clause-agrees c = worked.gets_alike

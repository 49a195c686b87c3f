use Rattle.module_files.proofs.Running.{imports_run_first}
use Rattle.module_files.proofs.imports_run_first.Goals as goal

pub returns : goal.returns
returns c = imports_run_first

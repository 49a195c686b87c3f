use Rattle.declared_files.proofs.Once as once
use Rattle.declared_files.proofs.files_run_last.Goals as goal

pub returns : goal.returns
returns c = once.files_run_last

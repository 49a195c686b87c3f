use Rattle.running_modules.proofs.Sources.{reached_files_only_declare}
use Rattle.running_modules.proofs.reached_files_only_declare.Goals as goal

pub returns : goal.returns
returns c = reached_files_only_declare

use Rattle.module_uses.proofs.InFiles.{used_there}
use Rattle.module_uses.proofs.files_use.Goals as goal

pub returns : goal.returns
returns c = used_there

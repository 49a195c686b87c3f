use Rattle.module_files.proofs.Whole.{plans_are_whole}
use Rattle.module_files.proofs.plans_are_whole.Goals as goal

pub returns : goal.returns
returns c = plans_are_whole

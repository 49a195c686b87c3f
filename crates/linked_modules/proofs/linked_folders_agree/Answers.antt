use Rattle.linked_modules.proofs.Edits.{linked_folders_agree}
use Rattle.linked_modules.proofs.linked_folders_agree.Goals as goal

pub returns : goal.returns
returns c = linked_folders_agree

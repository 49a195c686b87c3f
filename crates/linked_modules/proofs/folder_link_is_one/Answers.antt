use Rattle.linked_modules.proofs.Edits.{one_folder_link}
use Rattle.linked_modules.proofs.folder_link_is_one.Goals as goal

pub returns : goal.returns
returns c = one_folder_link

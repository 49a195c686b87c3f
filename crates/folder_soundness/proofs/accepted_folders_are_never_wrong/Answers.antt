use Rattle.folder_soundness.proofs.Whole.{never_wrong_folders}
use Rattle.folder_soundness.proofs.accepted_folders_are_never_wrong.Goals as goal

pub returns : goal.returns
returns c = never_wrong_folders

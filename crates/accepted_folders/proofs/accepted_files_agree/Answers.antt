use Rattle.accepted_folders.proofs.Agree.{agree}
use Rattle.accepted_folders.proofs.accepted_files_agree.Goals as goal

pub returns : goal.returns
returns c = agree

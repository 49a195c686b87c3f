use Rattle.folder_judging_spec.proofs.EachFolder.{none_without}
use Rattle.folder_judging_spec.proofs.laws.no_folder_is_without_verdict.Goals as goal

pub returns : goal.returns
returns c = none_without

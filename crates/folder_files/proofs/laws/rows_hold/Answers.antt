use Rattle.std.proofs.Common.{refl}
use Rattle.folder_files.proofs.laws.rows_hold.Goals as goal

pub returns : goal.returns
returns c = record { none = refl; listed = refl; no_folder_left = refl; two_above = refl; three_above = refl; bare_suffix = refl; deepest_of_all = refl; below_the_deepest = refl }

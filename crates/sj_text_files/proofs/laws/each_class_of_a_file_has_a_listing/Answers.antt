use Rattle.sj_text_files.proofs.ListedClasses.{file_is_listed}
use Rattle.sj_text_files.proofs.laws.each_class_of_a_file_has_a_listing.Goals as goal

pub returns : goal.returns
returns c = file_is_listed

use Rattle.sj_text_files.proofs.MadeFiles.{listed_names_its_files}
use Rattle.sj_text_files.proofs.laws.each_listed_class_names_its_files.Goals as goal

pub returns : goal.returns
returns c = listed_names_its_files

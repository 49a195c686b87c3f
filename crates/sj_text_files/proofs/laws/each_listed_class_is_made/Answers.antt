use Rattle.sj_text_files.proofs.MadeFiles.{listed_is_made}
use Rattle.sj_text_files.proofs.laws.each_listed_class_is_made.Goals as goal

pub returns : goal.returns
returns c = listed_is_made

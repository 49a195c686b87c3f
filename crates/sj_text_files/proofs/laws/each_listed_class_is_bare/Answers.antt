use Rattle.sj_text_files.proofs.Bare.{listed_is_bare}
use Rattle.sj_text_files.proofs.laws.each_listed_class_is_bare.Goals as goal

pub returns : goal.returns
returns c = listed_is_bare

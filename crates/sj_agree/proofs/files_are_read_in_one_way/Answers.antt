use Rattle.sj_agree.proofs.Reading.{read_once}
use Rattle.sj_agree.proofs.files_are_read_in_one_way.Goals as goal

pub returns : goal.returns
returns c = read_once

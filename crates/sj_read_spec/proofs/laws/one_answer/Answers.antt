use Rattle.sj_read_spec.proofs.ExactFiles as files
use Rattle.sj_read_spec.proofs.laws.one_answer.Goals as goal

pub returns : goal.returns
returns c = files.one_answer

use Rattle.sj_outside.proofs.Laws.{Appends-none}
use Rattle.sjslink.specs.Output.{out_of_memory}
use Rattle.sjslink.proofs.program.tell_bad_line.Goals as goal

pub returns-in-Err-clause-ends : goal.returns-in-Err-clause-ends
returns-in-Err-clause-ends g c = out_of_memory (Appends-none _)

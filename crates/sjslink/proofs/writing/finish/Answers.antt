use Rattle.std.proofs.Common.{ℕ, List, subst}
use Rattle.sj_outside.specs.Writing.{Appends}
use Rattle.sjslink.specs.Output.{all_written, faulted, out_of_memory}
use Rattle.sjslink.proofs.writing.finish.Goals as goal

pub returns-in-Ok-clause-ends : goal.returns-in-Ok-clause-ends
returns-in-Ok-clause-ends g c = all_written (subst (λ (text : List ℕ). Appends (g.L.Lines.printed c.args.lines.now) (g.L.Lines.printed c.line.new.self) text) c.as_bytes.ensures.value c.in-Ok.ensures.line)

pub returns-in-Err-Failed-clause-ends : goal.returns-in-Err-Failed-clause-ends
returns-in-Err-Failed-clause-ends g c = faulted c.in-Err-Failed.ensures.unchanged (c.in-Err-Failed.ensures.cause.failed (cc))

pub returns-in-Err-NoMemory-clause-ends : goal.returns-in-Err-NoMemory-clause-ends
returns-in-Err-NoMemory-clause-ends g c = out_of_memory c.in-Err-NoMemory.ensures.unchanged

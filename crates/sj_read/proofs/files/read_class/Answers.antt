use Rattle.std.proofs.Common.{◌≡◌, Err}
use Rattle.sj_read_spec.specs.Files.{file_of}
use Rattle.sj_read_spec.proofs.ExactAnswers.{reads_class, reads_failure}
use Rattle.sj_read.proofs.files.read_class.Goals as goal

pub returns-in-Ok-clause-answer : goal.returns-in-Ok-clause-answer
returns-in-Ok-clause-answer c = reads_class c.args.bytes.now c.in-Ok.class c.in-Ok.ensures

pub returns-in-Err-Bad-clause-answer : goal.returns-in-Err-Bad-clause-answer
returns-in-Err-Bad-clause-answer c =
    let first : file_of c.args.bytes.now ≡ Err c.in-Err-Bad.fault = rw c.in-Err-Bad.field-0-is at c.in-Err-Bad.ensures in
    rw c.saturating_sub.ensures (reads_failure c.args.bytes.now c.in-Err-Bad.fault first)

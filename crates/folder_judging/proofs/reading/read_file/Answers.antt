use Rattle.folder_judging.specs.Reading.{IsFaultOf}
use Rattle.folder_judging.proofs.Files.{has_fault}
use Rattle.folder_judging.proofs.Refused.{at_refusal}
use Rattle.std.proofs.Common.{refl}
use Rattle.folder_judging.proofs.reading.read_file.Goals as goal

pub returns-in-Err-Bad-clause-read : goal.returns-in-Err-Bad-clause-read
returns-in-Err-Bad-clause-read g c = at_refusal (IsFaultOf (record { path = c.args.path.now; bytes = c.args.bytes.now })) c.number.result _ c.refusal_in_file.result c.refusal_in_file.ensures (has_fault (record { path = c.args.path.now; bytes = c.args.bytes.now }) _ _ c.in-Err-Bad.code c.in-Err-Bad.place c.number.result c.in-Err-Bad.field-0-is refl c.in-Err-Bad.ensures.answer.right c.number.ensures)

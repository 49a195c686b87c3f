use Rattle.std.proofs.Common.{sym, ◌∙◌}
use Rattle.js_read_scan.proofs.HeadSteps.{head_read}
use Rattle.js_read_scan.proofs.heads.head_of.Goals as goal

pub returns-in-Some : goal.returns-in-Some
returns-in-Some c = head_read c.args.bytes.now c.split_name.result.0.now c.split_name.result.1.now c.in-Some.head c.split_name.ensures (sym c.in-Some.is ∙ c.in_ok-head.ensures)

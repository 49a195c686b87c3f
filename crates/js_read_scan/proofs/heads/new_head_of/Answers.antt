use Rattle.std.proofs.Common.{sym, ◌∙◌}
use Rattle.js_read_spec.specs.Words.{new_head_of}
use Rattle.js_read_spec.specs.Tokens.{new_head_at}
use Rattle.js_read_scan.proofs.HeadSteps.{word_head_read, word_head_missed}
use Rattle.js_read_scan.proofs.heads.new_head_of.Goals as goal

pub returns-in-Some : goal.returns-in-Some
unfolding new_head_at
returns-in-Some c = word_head_read new_head_of c.args.bytes.now c.split_name.result.0.now c.split_name.result.1.now c.in-Some.head c.split_name.ensures (sym c.in-Some.is ∙ c.in_ok-head.ensures)

pub returns-in-None : goal.returns-in-None
unfolding new_head_at
returns-in-None c = word_head_missed new_head_of c.args.bytes.now c.split_name.result.0.now c.split_name.result.1.now c.split_name.ensures (sym c.in-None.is ∙ c.in_ok-head.ensures)

use Rattle.std.proofs.Common.{sym, ◌∙◌}
use Rattle.js_read_spec.specs.Words.{parenthesis_head_of}
use Rattle.js_read_spec.specs.Tokens.{parenthesis_head_at}
use Rattle.js_read_scan.proofs.HeadSteps.{word_head_read, word_head_missed}
use Rattle.js_read_scan.proofs.heads.parenthesis_head_of.Goals as goal

pub returns-in-Some : goal.returns-in-Some
unfolding parenthesis_head_at
returns-in-Some c = word_head_read parenthesis_head_of c.args.bytes.now c.split_name.result.0.now c.split_name.result.1.now c.in-Some.head c.split_name.ensures (sym c.in-Some.is ∙ c.in_ok-head.ensures)

pub returns-in-None : goal.returns-in-None
unfolding parenthesis_head_at
returns-in-None c = word_head_missed parenthesis_head_of c.args.bytes.now c.split_name.result.0.now c.split_name.result.1.now c.split_name.ensures (sym c.in-None.is ∙ c.in_ok-head.ensures)

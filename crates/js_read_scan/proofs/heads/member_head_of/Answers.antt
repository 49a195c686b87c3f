use Rattle.std.proofs.Common.{sym, ◌∙◌}
use Rattle.js_read_spec.specs.Words.{member_head_of}
use Rattle.js_read_spec.specs.Tokens.{member_head_at}
use Rattle.js_read_scan.proofs.HeadSteps.{property_head_read, property_head_missed}
use Rattle.js_read_scan.proofs.heads.member_head_of.Goals as goal

pub returns-in-Some : goal.returns-in-Some
unfolding member_head_at
returns-in-Some c = property_head_read member_head_of c.args.bytes.now c.split_property.result.0.now c.split_property.result.1.now c.in-Some.head c.split_property.ensures (sym c.in-Some.is ∙ c.in_ok-head.ensures)

pub returns-in-None : goal.returns-in-None
unfolding member_head_at
returns-in-None c = property_head_missed member_head_of c.args.bytes.now c.split_property.result.0.now c.split_property.result.1.now c.split_property.ensures (sym c.in-None.is ∙ c.in_ok-head.ensures)

use Rattle.js_read_spec.specs.Tokens.{infix_at}
use Rattle.js_read_scan.proofs.heads.infix_of.Goals as goal

pub returns : goal.returns
unfolding infix_at
returns c = rw c.as_slice.ensures at c.word_of.ensures

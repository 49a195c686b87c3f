use Rattle.std.proofs.Common.{ap}
use Rattle.js_tree.specs.Terms.{Module}
use Rattle.sj_emit_help.proofs.Fixed.{first_is}
use Rattle.sj_emit_help.proofs.pieces.only_item_of.Goals as goal

pub returns : goal.returns
returns c = λ i e. first_is _ c.args.read.items.items c.remove.result i (ap (λ (m : Module). m.items) e) c.remove.ensures.value

use Rattle.piece_making.proofs.Counted.{one_more}
use Rattle.piece_making.proofs.parameters.put_parameters.Goals as goal

pub loop-number-preserved : goal.loop-number-preserved
loop-number-preserved c = one_more c.args.names.now.items c.loop-number.names.items c.push.new.self.items c.in_ok-parameter.field-0 c.loop-number.number c.loop-number.invariant c.in_ok-push.ensures.items c.in_ok-parameter.ensures

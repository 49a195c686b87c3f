use Rattle.std.proofs.Common.{arith}
use Rattle.sj_local.proofs.RepeatSteps.{repeat_hit, repeat_miss, repeat_end}
use Rattle.sj_local.proofs.repeats.first_repeat.Goals as goal

pub returns-then-not-branch : goal.returns-then-not-branch
returns-then-not-branch g c = repeat_hit g.T.Key.PartialEq.eq c.exact.ensures g.T.Keyed.key c.args.items.now c.loop-index.earlier.keys c.loop-index.index c.index-items-index.result c.in_ok-key.field-0 c.loop-index.invariant (grind arith) c.index-items-index.is c.in_ok-key.ensures (grind arith)

pub loop-index-preserved : goal.loop-index-preserved
loop-index-preserved g c = repeat_miss g.T.Key.PartialEq.eq c.exact.ensures g.T.Keyed.key c.args.items.now c.loop-index.earlier.keys c.insert.new.self.keys c.loop-index.index c.index-items-index.result c.in_ok-key.field-0 c.loop-index.invariant (grind arith) c.index-items-index.is c.in_ok-key.ensures (grind arith) c.in_ok-insert.ensures.keys

pub returns : goal.returns
returns g c = repeat_end g.T.Key.PartialEq.eq c.exact.ensures g.T.Keyed.key c.args.items.now c.loop-index.earlier.keys c.loop-index.index c.loop-index.invariant (grind arith)

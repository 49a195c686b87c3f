use Rattle.std.proofs.Common.{refl}
use Rattle.sj_reach.proofs.Sight.{sees_name}
use Rattle.sj_reach.proofs.seen.Seen.see_reflective.Goals as goal

pub returns : goal.returns
returns c = record { made = refl; below = refl; called = refl; reflective = sees_name c.args.self.now.reflective.keys _ c.in_ok-copied.field-0 c.args.proxy.now c.in_ok-copied.ensures c.in_ok-insert.ensures.keys }

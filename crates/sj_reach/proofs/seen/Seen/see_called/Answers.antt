use Rattle.std.proofs.lemmas.Result.{on_ok_weaker}
use Rattle.std.proofs.Common.{refl}
use Rattle.sj_reach.proofs.Sight.{sees_called_step}
use Rattle.sj_reach.proofs.seen.Seen.see_called.Goals as goal

pub returns : goal.returns
returns c = on_ok_weaker _ (λ h. sees_called_step c.args.self.now (record c.args.self.now { called = c.put.new.self }) c.args.class.now _ c.args.method.now c.in_ok-copied.ensures h refl refl refl) c.put.ensures

use Rattle.std.proofs.lemmas.Result.{on_ok_weaker}
use Rattle.sj_reach.proofs.Sight.{sees_info}
use Rattle.sj_reach.proofs.seen.Seen.see_info.Goals as goal

pub returns-in-Reflective : goal.returns-in-Reflective
returns-in-Reflective c = on_ok_weaker _ (sees_info c.args.info.now c.in-Reflective.proxy _ _ c.in-Reflective.is) c.see_reflective.ensures

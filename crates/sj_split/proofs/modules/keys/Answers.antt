use Rattle.std.proofs.Common.{subst, List, ℕ, Contains}
use Rattle.std.specs.Prelude.{◌↔◌}
use Rattle.sj_split.proofs.Walked.{then_both}
use Rattle.sj_split.proofs.Planned.{keys_exact}
use Rattle.sj_split.proofs.modules.keys.Goals as goal

pub returns : goal.returns
returns c = record {
  increasing = c.each_once_in_order.ensures.increasing;
  exact = λ key. then_both (subst (λ (l : List (List ℕ)). Contains c.each_once_in_order.result.items key ↔ Contains l key) c.in_ok-home_keys.ensures (c.each_once_in_order.ensures.exact key)) (keys_exact c.args.homes.now key);
}

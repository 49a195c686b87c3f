use Rattle.std.proofs.Common.{subst, List, ℕ, Contains}
use Rattle.std.specs.Prelude.{◌↔◌}
use Rattle.sj_split.proofs.modules.ids.Goals as goal

pub returns : goal.returns
returns c = record {
  increasing = c.each_once_in_order.ensures.increasing;
  exact = λ id. subst (λ (l : List (List ℕ)). Contains c.each_once_in_order.result.items id ↔ Contains l id) c.in_ok-entry_ids.ensures (c.each_once_in_order.ensures.exact id);
}

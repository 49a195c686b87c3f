use Rattle.std.proofs.Common.{◌∙◌, ap, List, ℕ, ◌++◌}
use Rattle.sj_split.proofs.Joins.{tail, joined_is}
use Rattle.sj_split.proofs.tags.joined.Goals as goal

pub loop-other-init : goal.loop-other-init
loop-other-init c = ap (λ (key : List ℕ). key ++ tail c.args.others.now) (c.in_ok-key.ensures.ok ∙ c.as_str.ensures) ∙ joined_is c.args.id.now c.args.others.now

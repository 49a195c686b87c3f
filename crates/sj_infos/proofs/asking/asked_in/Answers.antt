use Rattle.std.proofs.Common.{◌≡◌, List, IfOk, map, ap, ◌∙◌, subst}
use Rattle.sj_trees.specs.Term.{Term}
use Rattle.sj_trees.specs.View.{view}
use Rattle.sj_infos.specs.Infos.{asked_among}
use Rattle.sj_infos.specs.Trees.{trees}
use Rattle.sj_infos.proofs.asking.asked_in.Goals as goal

pub returns : goal.returns
returns c =
    let seen = ap (map (λ t. view t.now)) c.deref.ensures.value ∙ c.in_ok-trees.ensures ∙ ap trees c.tree.ensures in
    subst (λ (ts : List Term). IfOk c.asked_among.result (λ asked. asked.items ≡ asked_among ts)) seen c.asked_among.ensures

use Rattle.std.proofs.Common.{◌≡◌, List, IfOk, map, ap, ◌∙◌, subst}
use Rattle.sj_trees.specs.Term.{Term}
use Rattle.sj_trees.specs.View.{view}
use Rattle.sj_infos.specs.Forms.{forms_among}
use Rattle.sj_infos.specs.Trees.{trees}
use Rattle.sj_infos.proofs.forms.forms_in.Goals as goal

pub returns : goal.returns
returns c =
    let seen = ap (map (λ t. view t.now)) c.deref.ensures.value ∙ c.in_ok-trees.ensures ∙ ap trees c.tree.ensures in
    subst (λ (ts : List Term). IfOk c.forms_among.result (λ forms. forms.items ≡ forms_among ts)) seen c.forms_among.ensures

use Rattle.std.proofs.Common.{◌∙◌, ap, subst, Contains}
use Rattle.std.specs.Prelude.{◌↔◌}
use Rattle.indexmap.specs.IndexSet.{insert_key}
use Rattle.sj_world.specs.Known.{Name, is_same}
use Rattle.sj_world.specs.Paths.{Path}
use Rattle.sj_world.specs.Ancestors.{IsParent}
use Rattle.sj_world.proofs.Found.{ancestors_found}
use Rattle.sj_world.proofs.above.found_above.Goals as goal

pub returns : goal.returns
returns c = ancestors_found c.args.classes.now c.args.name.now c.in_ok-found.found.keys _ (c.in_ok-insert.ensures.keys ∙ ap (insert_key is_same c.in_ok-found.found.keys) (c.in_ok-copied-2.ensures ∙ c.requires.object)) c.requires.known (subst (λ (n : Name). (x : Name) → Contains c.in_ok-found.found.keys x ↔ Path (IsParent c.args.classes.now) n x) c.in_ok-copied.ensures c.in_ok-found.ensures.reached)

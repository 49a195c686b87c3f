use Rattle.std.proofs.Common.{◌++◌, List, ap, ◌∙◌}
use Rattle.sj_split.specs.declared.plans.PlannedModule.{PlannedModule}
use Rattle.sj_split.proofs.Planned.{internal_same}
use Rattle.sj_split.proofs.modules.add_internal_modules.Goals as goal

pub returns : goal.returns
returns c = c.in_ok-add_grouped_modules.ensures c.args.homes.now c.in_ok-groups.ensures ∙ ap (λ (l : List PlannedModule). c.args.modules.now.items ++ l) (internal_same c.args.owners.now c.in_ok-owners.owners.keys c.args.homes.now c.args.keys.now c.args.names.now c.in_ok-owners.ensures)

-- The items of the files of a plan.
use Rattle.std.proofs.Common.{◌≡◌, refl, ap, ◌∙◌}
use Rattle.std.specs.Prelude.{codes}
use Rattle.std.proofs.lemmas.List.{append_cancel_right}
use Rattle.js_mean.specs.Files.{items_in}
use Rattle.module_files.proofs.Circles.{one_named}
use Rattle.module_files.proofs.Found.{found}
use Rattle.sj_emit_module_spec.specs.Modules.{module_of}
use Rattle.sj_split_laws.proofs.Names.{names_differ}
use Rattle.sj_split.specs.Modules.{file}
use Rattle.sj_split.specs.declared.plans.PlannedModule.{PlannedModule}
use Rattle.running_modules.specs.Laws.{ModulesHaveTheirItems}

pub modules_have_their_items : ModulesHaveTheirItems
modules_have_their_items digest_of graph entries style modules ps keep is m h =
    let n = found modules ps m (file m) h refl in
    let same : n.planned ≡ m = one_named modules n.planned m (names_differ digest_of graph entries style modules keep is) n.among h (append_cancel_right n.planned.name m.name (codes ".js") n.named) in
    ap items_in n.is ∙ ap (λ (k : PlannedModule). (module_of modules k ps).items) same

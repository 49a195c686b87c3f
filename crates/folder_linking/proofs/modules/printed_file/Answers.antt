use Rattle.std.proofs.Common.{◌≡◌, ◌<◌, ◌∙◌, ◌++◌, List, Some, ap, length, refl, subst, sym}
use Rattle.std.specs.Prelude.{codes, slice_get}
use Rattle.std.proofs.lemmas.Option.{slice_get_read}
use Rattle.js_tree.specs.Spelling.{Spells}
use Rattle.js_tree.specs.Views.{module_view}
use Rattle.sj_split.specs.declared.plans.PlannedModule.{PlannedModule}
use Rattle.folder_linking.proofs.Printed.{module_kept, file_at}
use Rattle.folder_linking.proofs.modules.printed_file.Goals as goal

pub print_module-requires : goal.print_module-requires
print_module-requires c =
    let planned = c.index-modules-which.result in
    let same : c.modules-modules.result.now ≡ c.args.plan.now = c.modules-modules.ensures in
    let inside : c.args.which < length c.modules-modules.result.now = subst (λ (l : List PlannedModule). c.args.which < length l) (sym same) c.requires.there in
    let stands : slice_get c.args.plan.now c.args.which ≡ Some planned = subst (λ (l : List PlannedModule). slice_get l c.args.which ≡ Some planned) same (slice_get_read c.modules-modules.result.now _ c.args.which planned refl inside c.index-modules-which.is) in
    let printable = c.requires.printable in
    module_kept c.args.plan.now printable.pieces c.args.which (module_view c.in_ok-module.module) printable.rules (record { planned = planned; stands = stands; is = c.in_ok-module.ensures c.args.plan.now printable.pieces printable.are })

pub returns : goal.returns
returns c ps are =
    let planned = c.index-modules-which.result in
    let same : c.modules-modules.result.now ≡ c.args.plan.now = c.modules-modules.ensures in
    let inside : c.args.which < length c.modules-modules.result.now = subst (λ (l : List PlannedModule). c.args.which < length l) (sym same) c.requires.there in
    let stands : slice_get c.args.plan.now c.args.which ≡ Some planned = subst (λ (l : List PlannedModule). slice_get l c.args.which ≡ Some planned) same (slice_get_read c.modules-modules.result.now _ c.args.which planned refl inside c.index-modules-which.is) in
    let named = c.in_ok-name.ensures ∙ ap (λ n. n ++ codes ".js") c.as_str.ensures in
    file_at c.args.plan.now ps c.args.which (module_view c.in_ok-module.module) planned _ stands (record { planned = planned; stands = stands; is = c.in_ok-module.ensures c.args.plan.now ps are }) named (subst (Spells (module_view c.in_ok-module.module)) (sym c.from_vec.ensures) c.in_ok-bytes.ensures.spelled)

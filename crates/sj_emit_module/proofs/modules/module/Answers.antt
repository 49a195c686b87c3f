use Rattle.std.proofs.Common.{◌≡◌, ◌<◌, length, List, map, refl, Some, subst, sym}
use Rattle.std.specs.Prelude.{slice_get}
use Rattle.std.proofs.lemmas.Option.{slice_get_read}
use Rattle.std.proofs.lemmas.Result.{IfOk-weaker}
use Rattle.js_tree.specs.Views.{piece_view}
use Rattle.sj_split.specs.declared.plans.PlannedModule.{PlannedModule}
use Rattle.sj_emit_module.proofs.modules.module.Goals as goal

pub returns : goal.returns
returns c =
    let planned = c.index-modules-which.result in
    let same : c.modules-modules.result.now ≡ c.args.plan.now = c.modules-modules.ensures in
    let inside : c.args.which < length c.modules-modules.result.now = subst (λ (l : List PlannedModule). c.args.which < length l) (sym same) c.requires in
    let stands : slice_get c.args.plan.now c.args.which ≡ Some planned = subst (λ (l : List PlannedModule). slice_get l c.args.which ≡ Some planned) same (slice_get_read c.modules-modules.result.now _ c.args.which planned refl inside c.index-modules-which.is) in
    IfOk-weaker c.module.result _ _ (λ m is. record { planned = planned; stands = stands; is = is }) (c.module.ensures c.args.plan.now (map piece_view c.args.pieces.now) c.in_ok-shares.ensures)

use Rattle.std.proofs.Common.{◌++◌, append-nil, arith, List, refl, subst, sym, take}
use Rattle.std.specs.List.{flat_map}
use Rattle.std.proofs.lemmas.Option.{slice_get_read}
use Rattle.js_tree.specs.declared.items.Binding.{Binding}
use Rattle.sj_emit_module_spec.specs.Modules.{called_in}
use Rattle.sj_emit_module.specs.Files.{file_in}
use Rattle.sj_emit_module.specs.Groups.{HoldNames}
use Rattle.sj_emit_module.specs.Lists.{items_at}
use Rattle.sj_emit_module.specs.Shares.{crossing_calls}
use Rattle.sj_emit_module.proofs.Added.{appended_more, own_join, held_more, crossing_calls_join}
use Rattle.sj_split.specs.declared.plans.PlannedModule.{PlannedModule}
use Rattle.sj_emit_module.proofs.uses.put_calls.Goals as goal

pub loop-planned-init : goal.loop-planned-init
loop-planned-init c = (
  λ f. sym (append-nil (items_at c.args.uses.now f)),
  λ bs held. subst (λ (l : List Binding). HoldNames (file_in c.args.files.now) l c.args.exports.now) (sym (append-nil bs)) held,
)

pub loop-planned-preserved : goal.loop-planned-preserved
loop-planned-preserved c =
    let at = slice_get_read c.args.modules.now _ c.loop-planned.planned-index c.planned-item.result refl (omega arith) c.planned-item.is in (
      λ f. appended_more (λ (ms : List PlannedModule). called_in ms f) (own_join f) c.args.modules.now c.loop-planned.planned-index c.planned-item.result at (items_at c.args.uses.now f) _ _ (c.loop-planned.invariant.0 f) (c.in_ok-put_own_calls.ensures.uses f),
      λ bs held. held_more (λ (ms : List PlannedModule). flat_map (crossing_calls (file_in c.args.files.now)) ms) (crossing_calls_join (file_in c.args.files.now)) c.args.modules.now c.loop-planned.planned-index c.planned-item.result at (file_in c.args.files.now) bs _ (c.in_ok-put_own_calls.ensures.exports (bs ++ flat_map (crossing_calls (file_in c.args.files.now)) (take c.loop-planned.planned-index c.args.modules.now)) (c.loop-planned.invariant.1 bs held)),
    )

use Rattle.std.proofs.Common.{◌∙◌, ap, arith, refl, Some, sym}
use Rattle.std.proofs.lemmas.Option.{slice_get_read}
use Rattle.sj_emit_module.specs.Lists.{items_at}
use Rattle.sj_split.specs.Orders.{is_same}
use Rattle.sj_emit_module.proofs.Put.{thing_more, nothing_put}
use Rattle.sj_emit_module.proofs.uses.put_bindings.Goals as goal

pub loop-binding-init : goal.loop-binding-init
loop-binding-init c f = nothing_put (is_same c.args.file.now f) (items_at c.args.lists.now f)

pub loop-binding-preserved : goal.loop-binding-preserved
loop-binding-preserved c f = thing_more c.args.bindings.now c.loop-binding.binding-index c.in_ok-copied.field-0 (is_same c.args.file.now f) (items_at c.args.lists.now f) (items_at c.loop-binding.lists f) _ (slice_get_read c.args.bindings.now _ c.loop-binding.binding-index c.binding-item.result refl (omega arith) c.binding-item.is ∙ ap Some (sym c.in_ok-copied.ensures)) (c.loop-binding.invariant f) (c.in_ok-put.ensures f)

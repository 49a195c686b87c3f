use Rattle.std.proofs.Common.{◌≡◌, map, take}
use Rattle.js_tree.specs.Views.{item_view}
use Rattle.sj_emit_module.proofs.items.shared.Given as goal

abbrev pub invariant-loop-item : goal.invariant-loop-item
invariant-loop-item l = map (λ i. item_view i.value) l.list.items ≡ map (λ i. item_view i.value) (take l.item-index l.items)

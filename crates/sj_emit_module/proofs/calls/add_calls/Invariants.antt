use Rattle.std.proofs.Common.{◌≡◌, ◌++◌, map, take}
use Rattle.js_tree.specs.Views.{item_view}
use Rattle.sj_emit_module_spec.specs.Calls.{call_item_of}
use Rattle.sj_emit_module.proofs.calls.add_calls.Given as goal

abbrev pub invariant-loop-entry : goal.invariant-loop-entry
invariant-loop-entry l = map (λ i. item_view i.value) l.items.items ≡ map (λ i. item_view i.value) l.fn.items.items ++ map call_item_of (take l.entry-index l.initializers)

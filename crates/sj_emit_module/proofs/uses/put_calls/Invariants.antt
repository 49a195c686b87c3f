use Rattle.std.proofs.Common.{◌≡◌, ◌++◌, List, take}
use Rattle.std.specs.List.{flat_map}
use Rattle.js_tree.specs.declared.items.Binding.{Binding as Bound}
use Rattle.sj_emit_module_spec.specs.Modules.{called_in}
use Rattle.sj_emit_module.specs.Files.{file_in}
use Rattle.sj_emit_module.specs.Groups.{HoldNames}
use Rattle.sj_emit_module.specs.Lists.{items_at}
use Rattle.sj_emit_module.specs.Shares.{crossing_calls}
use Rattle.sj_split.specs.Orders.{Bytes}
use Rattle.sj_emit_module.proofs.uses.put_calls.Given as goal

abbrev pub invariant-loop-planned : goal.invariant-loop-planned
invariant-loop-planned l = ((f : Bytes) → items_at l.uses f ≡ items_at l.fn.uses f ++ called_in (take l.planned-index l.modules) f) × ((bs : List Bound) → HoldNames (file_in l.files) bs l.fn.exports → HoldNames (file_in l.files) (bs ++ flat_map (crossing_calls (file_in l.files)) (take l.planned-index l.modules)) l.exports)

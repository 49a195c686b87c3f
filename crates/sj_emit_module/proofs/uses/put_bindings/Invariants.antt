use Rattle.std.proofs.Common.{◌≡◌, ◌++◌, [], take}
use Rattle.std.specs.Prelude.{if◌then◌else◌}
use Rattle.sj_emit_module.specs.Lists.{items_at}
use Rattle.sj_split.specs.Orders.{Bytes, is_same}
use Rattle.sj_emit_module.proofs.uses.put_bindings.Given as goal

abbrev pub invariant-loop-binding : goal.invariant-loop-binding
invariant-loop-binding l = (f : Bytes) → items_at l.lists f ≡ items_at l.fn.lists f ++ (if is_same l.file f then take l.binding-index l.bindings else [])

use Rattle.std.proofs.Common.{◌≡◌, ◌++◌, map, take}
use Rattle.sj_emit_module_spec.specs.Calls as calls
use Rattle.sj_emit_module.proofs.calls.add_called.Given as goal

abbrev pub invariant-loop-entry : goal.invariant-loop-entry
invariant-loop-entry l = l.list.items ≡ l.fn.list.items ++ map calls.called (take l.entry-index l.initializers)

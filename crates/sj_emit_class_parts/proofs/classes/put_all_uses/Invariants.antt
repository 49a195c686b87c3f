use Rattle.std.proofs.Common.{◌≡◌, ◌++◌, drop, map}
use Rattle.sj_emit_class_spec.specs.Pieces.{uses_of_entries}
use Rattle.sj_emit_class_parts.proofs.classes.put_all_uses.Given as goal

abbrev pub invariant-loop-entry : goal.invariant-loop-entry
invariant-loop-entry l = l.bindings.items ++ uses_of_entries (map (λ e. e.now) (drop l.entry-index l.entries)) ≡ l.fn.bindings.items ++ uses_of_entries (map (λ e. e.now) l.entries)

use Rattle.std.proofs.Common.{◌≡◌}
use Rattle.js_tree.specs.Written.{put, indent}
use Rattle.js_print.proofs.writing.append_indent.Given as goal

abbrev pub invariant-loop-done : goal.invariant-loop-done
invariant-loop-done l = l.out.items ≡ put (indent l.done) l.initial.out.items

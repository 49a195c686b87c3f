use Rattle.std.proofs.Common.{◌≡◌, ◌++◌, drop}
use Rattle.sj_emit_expr.proofs.statements.copied_keys.Given as goal

abbrev pub invariant-loop-key : goal.invariant-loop-key
invariant-loop-key l = l.copies.items ++ drop l.key-index l.keys ≡ l.keys

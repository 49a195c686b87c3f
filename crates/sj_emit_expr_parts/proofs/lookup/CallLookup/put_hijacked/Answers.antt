use Rattle.std.proofs.Common.{refl}
use Rattle.sj_emit_expr_parts.proofs.Asked.{kept-mixed}
use Rattle.sj_emit_expr_parts.proofs.lookup.CallLookup.put_hijacked.Goals as goal

pub returns : goal.returns
returns c = λ found keeps. rw (← c.in_ok-copied.ensures) (kept-mixed c.args.self.now (record { targets = c.args.self.now.targets; mixed = c.insert.new.self }) c.in_ok-copied.field-0 c.args.is_mixed found refl c.in_ok-insert.ensures.updates.0 keeps)

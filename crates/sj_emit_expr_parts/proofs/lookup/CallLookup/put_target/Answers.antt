use Rattle.std.proofs.Common.{refl}
use Rattle.sj_emit_expr_parts.proofs.Asked.{kept-target}
use Rattle.sj_emit_expr_parts.proofs.lookup.CallLookup.put_target.Goals as goal

pub returns-in_ok-insert : goal.returns-in_ok-insert
returns-in_ok-insert c = λ found keeps. rw (c.in-Some.is, ← c.in_ok-copied.ensures, ← c.in_ok-copied-2.ensures) (kept-target c.args.self.now (record { targets = c.insert.new.self; mixed = c.args.self.now.mixed }) c.in_ok-copied.field-0 c.in_ok-copied-2.field-0 found refl c.in_ok-insert.ensures.updates.0 keeps)

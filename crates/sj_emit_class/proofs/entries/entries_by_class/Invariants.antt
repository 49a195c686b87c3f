use Rattle.std.proofs.Common.{take}
use Rattle.sj_emit_class.specs.Entries.{AreByClass}
use Rattle.sj_emit_class.proofs.entries.entries_by_class.Given as goal

abbrev pub invariant-loop-entry : goal.invariant-loop-entry
invariant-loop-entry l = AreByClass (take l.entry-index l.entries) l.lists

use Rattle.std.proofs.Common.{◌≡◌, ◌++◌, drop}
use Rattle.sj_outside.specs.Contents.{entries_of}
use Rattle.sj_outside.specs.View.{parts_view}
use Rattle.sj_outside.proofs.parts.entries.Given as goal

abbrev pub invariant-loop-part : goal.invariant-loop-part
invariant-loop-part l = l.entries.items ++ entries_of (parts_view (drop l.part-index l.parts)) ≡ entries_of (parts_view l.parts)

use Rattle.std.proofs.Common.{◌≡◌, drop}
use Rattle.sj_outside.specs.Contents.{part_named}
use Rattle.sj_outside.specs.View.{parts_view}
use Rattle.sj_outside.proofs.parts.part_named.Given as goal

abbrev pub invariant-loop-part : goal.invariant-loop-part
invariant-loop-part l = part_named l.name (parts_view (drop l.part-index l.parts)) ≡ part_named l.name (parts_view l.parts)

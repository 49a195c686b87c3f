use Rattle.std.proofs.Common.{◌≡◌, [], map, drop}
use Rattle.sj_outside.specs.Contents.{entry_name}
use Rattle.sj_outside.specs.Increasing.{are_increasing}
use Rattle.sj_outside.proofs.real_folders.are_increasing.Given as goal

abbrev pub invariant-loop-entry : goal.invariant-loop-entry
invariant-loop-entry l = are_increasing l.previous (map entry_name (drop l.entry-index l.entries)) ≡ are_increasing [] (map entry_name l.entries)

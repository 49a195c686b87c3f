use Rattle.std.proofs.Common.{◌≡◌, ◌≤◌, ◌+◌, ◌-◌, length}
use Rattle.entries_file.specs.EntriesFile.{said, most_bytes, most_entries}
use Rattle.entries_file.specs.Lines.{lines}
use Rattle.entries_file.proofs.Steps.{after}
use Rattle.entries_file.proofs.reading.listed.Given as goal

abbrev pub invariant-loop-rest : goal.invariant-loop-rest
invariant-loop-rest l = (after l.list.items (said (l.number + 1) (most_entries - length l.list.items) (lines l.rest)) ≡ said 1 most_entries (lines l.fn.text)) × (length l.list.items ≤ most_entries) × (l.number + length l.rest ≤ most_bytes)

abbrev pub decreases-loop-rest : goal.decreases-loop-rest
decreases-loop-rest l = length l.rest

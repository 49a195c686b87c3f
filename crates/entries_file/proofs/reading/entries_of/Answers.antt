use Rattle.std.proofs.Common.{arith}
use Rattle.entries_file.specs.Lines.{lines}
use Rattle.entries_file.proofs.Steps.{are_entries}
use Rattle.entries_file.proofs.reading.entries_of.Goals as goal

pub new-requires : goal.new-requires
new-requires c = are_entries (lines c.args.bytes.now) _ c.in_ok-list.ensures (grind arith)

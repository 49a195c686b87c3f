use Rattle.linked_entries.proofs.One.{entries_one}
use Rattle.linked_entries.proofs.entries_are_one.Goals as goal

pub returns : goal.returns
returns c = entries_one

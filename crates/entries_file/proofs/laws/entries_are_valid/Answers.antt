use Rattle.entries_file.proofs.Steps.{valid_entries}
use Rattle.entries_file.proofs.laws.entries_are_valid.Goals as goal

pub returns : goal.returns
returns c = valid_entries

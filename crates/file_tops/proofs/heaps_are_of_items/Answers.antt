use Rattle.file_tops.proofs.Made as made
use Rattle.file_tops.proofs.heaps_are_of_items.Goals as goal

pub returns : goal.returns
returns c = made.heaps_are_of_items

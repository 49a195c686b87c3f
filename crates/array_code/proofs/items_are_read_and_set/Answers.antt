use Rattle.array_code.proofs.Indexing as laws
use Rattle.array_code.proofs.items_are_read_and_set.Goals as goal

pub returns-clause-gets : goal.returns-clause-gets
returns-clause-gets c = laws.gets_tell

pub returns-clause-sets : goal.returns-clause-sets
returns-clause-sets c = laws.sets_tell

pub returns-clause-puts : goal.returns-clause-puts
returns-clause-puts c = laws.puts_tell

pub returns-clause-stay : goal.returns-clause-stay
returns-clause-stay c = laws.set_items_stay

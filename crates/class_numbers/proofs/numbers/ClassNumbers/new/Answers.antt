use Rattle.class_numbers.proofs.Numbered.{none_numbered}
use Rattle.class_numbers.proofs.numbers.ClassNumbers.new.Goals as goal

pub add_references-requires : goal.add_references-requires
add_references-requires c = none_numbered c.new.result.keys c.new-2.result.items c.new.ensures.empty c.new-2.ensures.items

pub returns-clause-numbered : goal.returns-clause-numbered
returns-clause-numbered c = c.in_ok-add_entries.ensures.numbered c.args.references.now c.in_ok-add_references.ensures

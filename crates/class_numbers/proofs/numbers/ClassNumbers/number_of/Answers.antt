use Rattle.std.proofs.Common.{◌≡◌, true, false, sym, ◌∙◌}
use Rattle.class_numbers.proofs.Numbered.{found_at, is_found}
use Rattle.class_numbers.proofs.numbers.ClassNumbers.number_of.Goals as goal

pub unreachable-requires : goal.unreachable-requires
unreachable-requires c = let wrong : false ≡ true = c.in-None.ensures.found ∙ is_found c.args.class.now c.args.self.now.classes.keys c.requires in cc

pub returns : goal.returns
returns c = found_at c.args.class.now c.args.self.now.classes.keys c.in-Some.number (sym c.get_index_of.ensures.index ∙ c.in-Some.is)

use Rattle.sj_mangling.proofs.Numerals as numerals
use Rattle.sj_mangling.proofs.laws.numerals_differ.Goals as goal

pub returns : goal.returns
returns c = numerals.numerals_differ

use Rattle.exact_place.proofs.Whole.{one_value}
use Rattle.exact_place.proofs.one_value.Goals as goal

pub returns : goal.returns
returns g c = one_value g.G.Readable.spells g.G.Readable.reading g.G.Readable.lawful

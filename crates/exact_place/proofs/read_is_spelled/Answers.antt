use Rattle.exact_place.proofs.Whole.{whole_takes}
use Rattle.exact_place.proofs.read_is_spelled.Goals as goal

pub returns : goal.returns
returns g c = whole_takes g.G.Readable.spells g.G.Readable.reading g.G.Readable.lawful

use Rattle.exact_place.proofs.Whole.{whole_place}
use Rattle.exact_place.proofs.place_is_exact.Goals as goal

pub returns : goal.returns
returns g c = whole_place g.G.Readable.spells g.G.Readable.reading g.G.Readable.lawful

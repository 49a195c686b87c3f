use Rattle.exact_place.proofs.Whole.{whole_reads}
use Rattle.exact_place.proofs.spelled_is_read.Goals as goal

pub returns : goal.returns
returns g c = whole_reads g.G.Readable.spells g.G.Readable.reading g.G.Readable.lawful

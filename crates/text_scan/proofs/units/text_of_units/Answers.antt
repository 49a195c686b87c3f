use Rattle.std.proofs.Common.{◌<◌, ◌^◌, get_or, rules}
use Rattle.std.proofs.lemmas.Grind.{get_or_default_zero}
use Rattle.text_scan.proofs.units.text_of_units.Goals as goal

pub from_vec-requires : goal.from_vec-requires
from_vec-requires c = λ k d lt.
    let fit : get_or c.args.units.items k 0 < 2 ^ 16 = search rules in
    rw (get_or_default_zero c.args.units.items k d lt) fit

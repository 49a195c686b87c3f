use Rattle.std.proofs.lemmas.Simd.{length-chunk}
use Rattle.std.specs.Simd.Lanes.{chunk}
use Rattle.sj_lanes.proofs.Marked.{special_mask}
use Rattle.sj_lanes.proofs.units.special_lanes.Goals as goal

pub returns : goal.returns
returns g c =
    let u = c.args.units.now in
    special_mask (chunk c.args.at g.row.N u) g.row.N (length-chunk c.args.at g.row.N u c.requires.long) c.requires.lanes

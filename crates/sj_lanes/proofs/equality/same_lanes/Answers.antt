use Rattle.std.proofs.Common.{arith}
use Rattle.std.proofs.lemmas.Simd.{length-chunk}
use Rattle.std.specs.Simd.Lanes.{chunk}
use Rattle.sj_lanes.proofs.Compared.{lanes_same}
use Rattle.sj_lanes.proofs.equality.same_lanes.Goals as goal

pub returns : goal.returns
returns g c =
    let i = c.args.at in
    let n = g.row.N in
    let a = c.args.a.now in
    let b = c.args.b.now in
    lanes_same (chunk i n a) (chunk i n b) n (length-chunk i n a (omega arith)) (length-chunk i n b (omega arith)) (omega arith)

use Rattle.std.proofs.Common.{◌-◌, length, ap, arith}
use Rattle.std.specs.Simd.Lanes.{chunk}
use Rattle.sj_lanes.proofs.Compared.{same_further, same_to_end}
use Rattle.sj_lanes.proofs.equality.same_by.Goals as goal

pub loop-at-preserved : goal.loop-at-preserved
loop-at-preserved g c = (
  omega arith,
  same_further c.args.a.now c.args.b.now c.loop-at.at g.row.N c.loop-at.invariant.1 (c.same_lanes.ensures.0 c.if-not-same_lanes.false),
)

pub returns : goal.returns
returns g c =
    let a = c.args.a.now in
    let b = c.args.b.now in
    let last = length a - g.row.N in (
      λ yes. same_to_end a b last g.row.N c.loop-at.at (omega arith) (omega arith) (omega arith) c.loop-at.invariant.1 (c.same_lanes-2.ensures.0 yes),
      λ same. c.same_lanes-2.ensures.1 (ap (chunk last g.row.N) same),
    )

use Rattle.std.proofs.Common.{◌-◌, length, arith}
use Rattle.sj_lanes.specs.SpecialUnit.{is_special_unit}
use Rattle.sj_lanes.proofs.Marked.{first_in_run, none_further, position_none}
use Rattle.sj_lanes.proofs.units.first_special_by.Goals as goal

pub returns-then-marks-ne0 : goal.returns-then-marks-ne0
returns-then-marks-ne0 g c =
    first_in_run is_special_unit c.args.units.now c.loop-at.at g.row.N c.loop-at.at c.special_lanes-marks.result (omega arith) (omega arith)
    c.loop-at.invariant.1 c.special_lanes-marks.ensures (omega arith) c.if-marks-ne0.true

pub loop-at-preserved : goal.loop-at-preserved
loop-at-preserved g c = (
  omega arith,
  none_further is_special_unit c.args.units.now c.loop-at.at g.row.N c.loop-at.at c.special_lanes-marks.result (omega arith) (omega arith)
      c.loop-at.invariant.1 c.special_lanes-marks.ensures (omega arith) c.if-marks-ne0.false,
)

pub returns-then-marks-eq0 : goal.returns-then-marks-eq0
returns-then-marks-eq0 g c =
    let u = c.args.units.now in
    position_none is_special_unit u (λ k inside.
    none_further is_special_unit u (length u - g.row.N) g.row.N c.loop-at.at c.special_lanes-marks-2.result (omega arith) (omega arith)
    c.loop-at.invariant.1 c.special_lanes-marks-2.ensures (omega arith) c.if-marks-eq0.true k (omega arith))

pub returns-else-marks-eq0 : goal.returns-else-marks-eq0
returns-else-marks-eq0 g c =
    let u = c.args.units.now in
    first_in_run is_special_unit u (length u - g.row.N) g.row.N c.loop-at.at c.special_lanes-marks-2.result (omega arith) (omega arith)
    c.loop-at.invariant.1 c.special_lanes-marks-2.ensures (omega arith) c.if-marks-eq0.false

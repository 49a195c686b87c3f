use Rattle.std.proofs.Common.{◌≡◌, Some, arith}
use Rattle.std.proofs.lemmas.Grind.{common_steps}
use Rattle.sj_units.specs.Modified.{modified_units}
use Rattle.sj_units.proofs.Exact.{modified_bytes_read, reads_what_is_written}
use Rattle.sj_units.proofs.FirstUnit.{units-more}
use Rattle.sj_units.proofs.modified.read_modified.Goals as goal

pub loop-unit-preserved : goal.loop-unit-preserved
loop-unit-preserved c = units-more c.loop-unit.units.items _ c.loop-unit.rest.now c.in-Some.after.now c.in-Some.unit _ c.in-Some.ensures c.in_ok-push.ensures.items c.loop-unit.invariant

pub from_vec-requires : goal.from_vec-requires
from_vec-requires c =
    let read : modified_units c.args.bytes.now ≡ Some c.loop-unit.units.items = grind (arith, common_steps) in
    ((reads_what_is_written c.args.bytes.now c.loop-unit.units.items).0 read).0

pub returns-clause-bytes : goal.returns-clause-bytes
returns-clause-bytes c =
    let read : modified_units c.args.bytes.now ≡ Some c.in_ok-from_vec.field-0 = grind (arith, common_steps) in
    modified_bytes_read c.args.bytes.now c.in_ok-from_vec.field-0 read

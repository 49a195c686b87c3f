use Rattle.std.proofs.Common.{◌≡◌, ◌++◌, drop}
use Rattle.sj_units.specs.Modified as modified
use Rattle.sj_units.proofs.modified.write_modified.Given as goal

abbrev pub invariant-loop-unit : goal.invariant-loop-unit
invariant-loop-unit l = l.bytes.items ++ modified.modified_bytes (drop l.unit-index l.units) ≡ modified.modified_bytes l.units

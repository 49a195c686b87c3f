use Rattle.std.proofs.Common.{◌≡◌, ◌++◌, drop}
use Rattle.sj_canon.specs.Numbers.{each_bytes}
use Rattle.sj_canon.specs.Own.{unit_bytes}
use Rattle.sj_canon.proofs.numbers.put_each_unit.Given as goal

abbrev pub invariant-loop-unit : goal.invariant-loop-unit
invariant-loop-unit l = l.out.items ++ each_bytes unit_bytes (drop l.unit-index l.units) ≡ l.fn.out.items ++ each_bytes unit_bytes l.units

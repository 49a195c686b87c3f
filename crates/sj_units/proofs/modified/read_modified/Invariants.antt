use Rattle.std.proofs.Common.{◌≡◌, ◌++◌, option_map, length}
use Rattle.sj_units.specs.Modified as modified
use Rattle.sj_units.proofs.modified.read_modified.Given as goal

abbrev pub invariant-loop-unit : goal.invariant-loop-unit
invariant-loop-unit l = option_map (λ units. l.units.items ++ units) (modified.modified_units l.rest) ≡ modified.modified_units l.bytes

abbrev pub decreases-loop-unit : goal.decreases-loop-unit
decreases-loop-unit l = length l.rest

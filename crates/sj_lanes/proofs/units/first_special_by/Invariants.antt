use Rattle.std.proofs.Common.{◌≡◌, ◌-◌, ◌<◌, ◌≤◌, ℕ, false, length, get_or}
use Rattle.sj_lanes.specs.SpecialUnit.{is_special_unit}
use Rattle.sj_lanes.proofs.units.first_special_by.Given as goal

abbrev pub invariant-loop-at : goal.invariant-loop-at
invariant-loop-at g l = (l.at ≤ length l.units) × ((k : ℕ) → k < l.at → is_special_unit (get_or l.units k 0) ≡ false)

abbrev pub decreases-loop-at : goal.decreases-loop-at
decreases-loop-at g l = length l.units - l.at

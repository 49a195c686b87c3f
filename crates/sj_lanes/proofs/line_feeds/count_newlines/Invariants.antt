use Rattle.std.proofs.Common.{◌≡◌, ◌-◌, ◌≤◌, ◌==◌, count_by, length, take}
use Rattle.sj_lanes.proofs.line_feeds.count_newlines.Given as goal

abbrev pub invariant-loop-at : goal.invariant-loop-at
invariant-loop-at l = (l.at ≤ length l.bytes) × (l.total ≡ count_by (λ x. x == 10) (take l.at l.bytes))

abbrev pub decreases-loop-at : goal.decreases-loop-at
decreases-loop-at l = length l.bytes - l.at

use Rattle.std.proofs.Common.{◌≡◌, ◌-◌, ◌^◌}
use Rattle.sj_names.specs.WellKnown.{hijacked}
use Rattle.sj_reach.proofs.Worked.{Working}
use Rattle.sj_reach.proofs.reaching.find_all.Given as goal

abbrev pub invariant-loop-next : goal.invariant-loop-next
invariant-loop-next l = record {
  names : l.hijacked ≡ hijacked;
  work : Working l.world l.entries l.next l.seen l.found;
}

abbrev pub decreases-loop-next : goal.decreases-loop-next
decreases-loop-next l = 2 ^ 64 - l.next

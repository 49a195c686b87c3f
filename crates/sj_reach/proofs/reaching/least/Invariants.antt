use Rattle.std.proofs.Common.{option_map}
use Rattle.sj_reach.proofs.Once.{LeastYet}
use Rattle.sj_reach.proofs.reaching.least.Given as goal

abbrev pub invariant-loop-report : goal.invariant-loop-report
invariant-loop-report l = LeastYet l.reports l.report-index (option_map (λ r. r.now) l.least)

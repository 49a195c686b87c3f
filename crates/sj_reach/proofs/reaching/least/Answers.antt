use Rattle.std.proofs.Common.{◌+◌, refl, arith, sym, subst, Bor, option_map}
use Rattle.std.proofs.lemmas.Option.{slice_get_read}
use Rattle.sj_world.proofs.Targets.{through}
use Rattle.sj_reach.specs.declared.findings.Report.{Report}
use Rattle.sj_reach.proofs.Once.{IsLeastYet, least_goes_on, least_ends}
use Rattle.sj_reach.proofs.reaching.least.Goals as goal

pub loop-report-init : goal.loop-report-init
loop-report-init c = refl

pub loop-report-preserved : goal.loop-report-preserved
loop-report-preserved c = subst (IsLeastYet c.args.reports.now (c.loop-report.report-index + 1)) (sym c.lesser.ensures) (least_goes_on c.args.reports.now c.loop-report.report-index c.report-item.result (slice_get_read c.args.reports.now _ c.loop-report.report-index c.report-item.result refl (omega arith) c.report-item.is) (option_map (λ (r : Bor Report). r.now) c.loop-report.least) c.loop-report.invariant)

pub returns : goal.returns
returns c = through (λ (r : Bor Report). r.now) c.loop-report.least _ _ (least_ends c.args.reports.now c.loop-report.report-index (option_map (λ (r : Bor Report). r.now) c.loop-report.least) (omega arith) c.loop-report.invariant)

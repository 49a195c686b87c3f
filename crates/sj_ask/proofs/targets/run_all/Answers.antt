use Rattle.std.proofs.Common.{refl, arith}
use Rattle.std.proofs.lemmas.Option.{slice_get_read}
use Rattle.sj_world.proofs.Searches.{all_begins, all_more}
use Rattle.sj_ask.specs.Answers.{public_member}
use Rattle.sj_ask.proofs.Searched.{Runs, each_runs, one_misses, failed}
use Rattle.sj_ask.proofs.targets.run_all.Goals as goal

pub loop-class-init : goal.loop-class-init
loop-class-init c = all_begins (Runs c.args.world.now c.args.method.now (public_member c.args.owner.now c.args.method.now)) c.args.made.now

pub loop-class-preserved : goal.loop-class-preserved
loop-class-preserved c = all_more (Runs c.args.world.now c.args.method.now (public_member c.args.owner.now c.args.method.now)) c.args.made.now c.loop-class.class-index c.class-item.result c.loop-class.invariant (slice_get_read c.args.made.now _ c.loop-class.class-index c.class-item.result refl (omega arith) c.class-item.is) (c.runs.ensures.0 c.if-not-runs.false)

pub returns-then-not-runs : goal.returns-then-not-runs
returns-then-not-runs c = (λ t. cc, λ all. absurd (one_misses c.args.world.now c.args.made.now c.args.method.now (public_member c.args.owner.now c.args.method.now) c.loop-class.class-index c.class-item.result (slice_get_read c.args.made.now _ c.loop-class.class-index c.class-item.result refl (omega arith) c.class-item.is) (failed c.runs.result c.runs.ensures c.if-not-runs.true) all))

pub returns : goal.returns
returns c = (λ t. each_runs c.args.world.now c.args.made.now c.args.method.now (public_member c.args.owner.now c.args.method.now) c.loop-class.class-index c.loop-class.invariant (omega arith), λ all. refl)

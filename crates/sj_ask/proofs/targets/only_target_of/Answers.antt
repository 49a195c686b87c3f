use Rattle.sj_ask.specs.Answers.{public_member}
use Rattle.sj_ask.proofs.Searched.{first_runs_none, all_run, some_misses, failed, first_is}
use Rattle.sj_ask.proofs.targets.only_target_of.Goals as goal

pub returns-in_err-owner : goal.returns-in_err-owner
returns-in_err-owner c = rw c.from_residual-in_err-owner.ensures (first_runs_none c.args.world.now.world c.args.world.now.facts c.args.class.now c.args.method.now c.made_below-made.result.now c.made_below-made.ensures c.in_ok-first.first.now (first_is _ _ c.in_ok-first.ensures.value) (rw c.world-classes.ensures at c.in_err-owner.ensures))

pub returns-then-run_all : goal.returns-then-run_all
returns-then-run_all c = all_run c.args.world.now.world c.args.world.now.facts c.args.class.now c.args.method.now c.made_below-made.result.now c.made_below-made.ensures c.in_ok-first.first.now (public_member c.in_ok-owner.owner.now c.args.method.now) (first_is _ _ c.in_ok-first.ensures.value) (rw c.world-classes.ensures at c.run_all.ensures.0 c.if-run_all.true)

pub returns-else-run_all : goal.returns-else-run_all
returns-else-run_all c = some_misses c.args.world.now.world c.args.world.now.facts c.args.class.now c.args.method.now c.made_below-made.result.now c.made_below-made.ensures c.in_ok-first.first.now (public_member c.in_ok-owner.owner.now c.args.method.now) (first_is _ _ c.in_ok-first.ensures.value) (rw c.world-classes.ensures at c.in_ok-owner.ensures) (failed c.run_all.result (rw c.world-classes.ensures at c.run_all.ensures) c.if-run_all.false)

use Rattle.sj_ask.proofs.SameRuns.{held_runs}
use Rattle.sj_ask.proofs.laws.held_answers_run.Goals as goal

pub returns : goal.returns
returns g c = held_runs

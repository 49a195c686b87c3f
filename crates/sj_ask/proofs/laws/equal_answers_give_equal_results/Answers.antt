use Rattle.sj_ask.proofs.SameRuns.{same_run}
use Rattle.sj_ask.proofs.laws.equal_answers_give_equal_results.Goals as goal

pub returns : goal.returns
returns g c = same_run g.S.Sameness.same

use Rattle.sj_typing_spec.proofs.AlikeChecks.{equal_checks}
use Rattle.sj_typing_spec.proofs.laws.equal_answers_give_equal_checks.Goals as goal

pub returns : goal.returns
returns c = equal_checks

use Rattle.sj_ask.proofs.Asked.{answers_are_one}
use Rattle.sj_ask.proofs.laws.answers_are_one.Goals as goal

pub returns : goal.returns
returns c = answers_are_one

use Rattle.exact_place.proofs.Basic.{law_literal}
use Rattle.exact_place.proofs.literals.Goals as goal

pub returns : goal.returns
returns c = λ n stop want. law_literal want

use Rattle.std.proofs.Common.{◌≡◌, true}
use Rattle.agree_plain_trees.proofs.Plain.{plain_alike}
use Rattle.agree_plain_trees.proofs.plain_trees_agree.Goals as goal

pub returns : goal.returns
returns c z lawful scope t h = (plain_alike z lawful (λ x i. scope x i ≡ true) t h).alike

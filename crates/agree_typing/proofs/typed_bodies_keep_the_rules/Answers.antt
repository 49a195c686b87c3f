use Rattle.agree_typing.proofs.Bodies.{rules_kept}
use Rattle.agree_typing.proofs.typed_bodies_keep_the_rules.Goals as goal

pub returns : goal.returns
returns c = rules_kept

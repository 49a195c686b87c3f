use Rattle.sj_world.proofs.Subtyped.{first_passed, first_failed}
use Rattle.sj_world.proofs.worlds.World.is_array_under.Goals as goal

pub returns-then-are_alike : goal.returns-then-are_alike
returns-then-are_alike c = first_passed c.are_alike.result c.are_alike.ensures c.if-are_alike.true

pub returns-else-are_alike : goal.returns-else-are_alike
returns-else-are_alike c = first_failed c.are_alike.result c.is_deeper.result c.are_alike.ensures c.is_deeper.ensures c.if-are_alike.false

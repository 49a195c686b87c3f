use Rattle.sj_split.specs.Steps.{id_of, IsReach}
use Rattle.sj_split.proofs.Settles.{Gathering}
use Rattle.sj_split.proofs.tags.reaches.Given as goal

abbrev pub invariant-loop-id : goal.invariant-loop-id
invariant-loop-id l = Gathering id_of (IsReach l.entries l.numbers l.components) l.ids l.id-index l.reaches.items

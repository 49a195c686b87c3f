use Rattle.std.proofs.Common.{[]}
use Rattle.sj_baselink.specs.Steps.{Puts}
use Rattle.sj_baselink.proofs.Putting.{OfFirst}
use Rattle.world_pieces.specs.Told.{IsUsedBy}
use Rattle.world_pieces.proofs.told.called_methods.Given as goal

abbrev pub invariant-loop-fact : goal.invariant-loop-fact
invariant-loop-fact l = Puts (OfFirst l.facts l.fact-index (IsUsedBy l.words.keys)) [] l.methods.keys

use Rattle.std.proofs.Common.{[]}
use Rattle.sj_baselink.specs.Steps.{Puts}
use Rattle.sj_baselink.proofs.Putting.{OfFirst}
use Rattle.world_pieces.specs.Helpers.{IsNamed}
use Rattle.world_pieces.proofs.helpers.helpers_named.Given as goal

abbrev pub invariant-loop-helper : goal.invariant-loop-helper
invariant-loop-helper l = Puts (OfFirst l.all l.helper-index (IsNamed l.words.keys)) [] l.found.keys

use Rattle.std.proofs.Common.{[]}
use Rattle.sj_baselink.specs.Steps.{Puts}
use Rattle.sj_baselink.proofs.Putting.{OfFirst}
use Rattle.sj_mangling.specs.declared.bindings.MethodBinding.TheVariants.{Reflective}
use Rattle.world_pieces.specs.Told.{IsUsedMethod}
use Rattle.world_pieces.proofs.reflected.used_among.Given as goal

abbrev pub invariant-loop-name : goal.invariant-loop-name
invariant-loop-name l = Puts (OfFirst l.names l.name-index (IsUsedMethod Reflective l.words.keys)) [] l.used.keys

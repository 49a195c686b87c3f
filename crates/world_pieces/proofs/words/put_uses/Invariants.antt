use Rattle.std.proofs.Common.{◌≡◌}
use Rattle.sj_emit_help_spec.specs.Words.{helper}
use Rattle.sj_baselink.specs.Steps.{Puts}
use Rattle.sj_baselink.proofs.Putting.{OfFirst}
use Rattle.world_pieces.proofs.words.put_uses.Given as goal

abbrev pub invariant-loop-binding : goal.invariant-loop-binding
invariant-loop-binding l = Puts (OfFirst l.bindings l.binding-index (λ b x. b ≡ helper x)) l.fn.words.keys l.words.keys

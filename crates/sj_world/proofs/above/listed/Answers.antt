use Rattle.std.proofs.Common.{sym, ◌∙◌, ap, Some, [], ◌∷◌, ◌++◌}
use Rattle.sj_world.proofs.Names.{Names, taken_more}
use Rattle.sj_world.proofs.above.listed.Goals as goal

pub loop-place-preserved : goal.loop-place-preserved
loop-place-preserved c = c.in_ok-push.ensures.items ∙ ap (λ (l : Names). l ++ c.in_ok-copied.field-0 ∷ []) c.loop-place.invariant ∙ sym (taken_more c.args.names.now.keys c.loop-place.place c.in_ok-copied.field-0 (c.index.ensures ∙ ap Some (sym c.in_ok-copied.ensures)))

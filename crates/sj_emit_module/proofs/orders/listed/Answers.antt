use Rattle.std.proofs.Common.{sym, ◌∙◌, ap, Some, [], ◌∷◌, ◌++◌}
use Rattle.sj_emit_module.proofs.Added.{more_taken}
use Rattle.sj_emit_module.proofs.orders.listed.Goals as goal

pub loop-place-preserved : goal.loop-place-preserved
loop-place-preserved c = c.in_ok-push.ensures.items ∙ ap (λ l. l ++ c.in_ok-copied.field-0 ∷ []) c.loop-place.invariant ∙ sym (more_taken c.args.set.now.keys c.loop-place.place c.in_ok-copied.field-0 (c.index.ensures ∙ ap Some (sym c.in_ok-copied.ensures)))

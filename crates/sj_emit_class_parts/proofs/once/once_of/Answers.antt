use Rattle.std.proofs.Common.{List, [], ◌∷◌, sym, ap, ◌∙◌}
use Rattle.js_tree.specs.declared.items.Binding.{Binding}
use Rattle.sj_emit_class_parts.specs.Collecting.{with_use}
use Rattle.sj_emit_class_parts.proofs.Collected.{with_uses-append}
use Rattle.sj_emit_class_parts.proofs.once.once_of.Goals as goal

pub loop-binding-preserved : goal.loop-binding-preserved
loop-binding-preserved c = c.in_ok-add.ensures ∙ ap (λ (bs : List Binding). with_use bs c.in-Some.binding) c.loop-binding.invariant ∙ sym (with_uses-append [] c.loop-binding.yielded (c.in-Some.binding ∷ []))

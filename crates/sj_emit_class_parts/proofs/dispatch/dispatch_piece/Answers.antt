use Rattle.sj_emit_class_parts.proofs.dispatch.dispatch_piece.Goals as goal

pub returns : goal.returns
returns c = c.piece.ensures _ _ _ _ (c.object_binding.ensures _ c.method_binding.ensures) (c.once.ensures _ c.told_uses.ensures) (c.function.ensures _ _ _ c.method_binding-2.ensures c.parameters_behind.ensures c.dispatch_body.ensures)

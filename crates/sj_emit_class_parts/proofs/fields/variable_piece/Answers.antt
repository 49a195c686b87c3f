use Rattle.sj_emit_class_parts.proofs.fields.variable_piece.Goals as goal

pub returns : goal.returns
returns c = c.piece.ensures _ _ _ _ (c.bound.ensures _ c.field_binding.ensures) c.no_bindings.ensures (c.let_item.ensures _ _ c.field_binding-2.ensures c.zero_of.ensures)

use Rattle.sj_emit_class_parts.proofs.fields.set_piece.Goals as goal

pub returns : goal.returns
returns c = (c.piece.ensures _ _ _ _ (c.bound.ensures _ c.text.ensures) (c.one_binding.ensures _ (c.bound-2.ensures _ c.text-2.ensures)) (c.function.ensures _ _ _ c.text-3.ensures c.one_parameter.ensures (c.one_statement.ensures _ (c.assign.ensures _ _ c.text-4.ensures c.name.ensures)))).is_seen

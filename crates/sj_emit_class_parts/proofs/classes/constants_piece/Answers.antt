use Rattle.sj_emit_class_parts.proofs.classes.constants_piece.Goals as goal

pub returns : goal.returns
returns c = c.piece.ensures _ _ _ _ c.own_constants.ensures c.no_bindings.ensures (c.object_item.ensures _ _ c.class_binding.ensures c.constants.ensures)

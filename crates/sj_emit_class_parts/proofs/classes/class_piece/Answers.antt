use Rattle.sj_emit_class_parts.proofs.classes.class_piece.Goals as goal

pub returns : goal.returns
returns c = c.piece.ensures _ _ _ _ c.own_class.ensures (c.once.ensures _ c.class_uses.ensures) (c.class_item.ensures _ c.members.ensures)

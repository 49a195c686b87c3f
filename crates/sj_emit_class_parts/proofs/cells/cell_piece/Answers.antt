use Rattle.sj_emit_class_parts.proofs.cells.cell_piece.Goals as goal

pub returns : goal.returns
returns c = c.piece.ensures _ _ _ _ (c.bound.ensures _ c.cell_name.ensures) c.no_bindings.ensures (c.let_item.ensures _ _ c.cell_name-2.ensures c.null.ensures)

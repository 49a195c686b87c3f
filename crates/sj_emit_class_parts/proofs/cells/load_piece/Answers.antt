use Rattle.sj_emit_class_parts.proofs.cells.load_piece.Goals as goal

pub returns : goal.returns
returns c = c.piece.ensures _ _ _ _ (c.bound.ensures _ c.class_binding.ensures) (c.three_bindings.ensures _ _ _ (c.bound-2.ensures _ c.cell_name.ensures) (c.bound-3.ensures _ c.init_name.ensures) (c.bound-4.ensures _ c.class_binding-2.ensures)) (c.function.ensures _ _ _ c.class_binding-3.ensures c.no_parameters.ensures c.load_body.ensures)

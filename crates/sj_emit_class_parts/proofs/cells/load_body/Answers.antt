use Rattle.sj_emit_class_parts.proofs.cells.load_body.Goals as goal

pub returns : goal.returns
returns c = c.two_statements.ensures _ _ c.fill_cell.ensures (c.return_of.ensures _ (c.name_of.ensures _ c.cell_name.ensures))
